-- The moves from a spot as a list, and whether a reading may stop there, found by computing.
use mathlib.Core.Path.{◌≡◌, refl, sym, ap, subst}
use mathlib.Core.Logic.Dec
use mathlib.Core.Logic.{◌⊎◌, inl, inr, ⊎_elim}
use mathlib.Core.Bool.{Bool-discrete, true}
use mathlib.Core.List.{List, [], ◌∷◌, ◌++◌}
use Prim.Native.Nat.{ℕ, zero, suc, ◌+◌}
use native.Mathlib.Decide.{dec_le}
use Rattle.meaning.specs.Expr.{Expr, empty, event, choice, sequence, repeat, size, Upper, Within}
use Rattle.meaning.specs.Normal.{nullable, low}
use Rattle.meaning.specs.Reading.{Item, opening, closing}
use Rattle.meaning.specs.Theory.Places.{Place, CanStart, opens, CanEnd, closes, Step}
use Rattle.meaning.specs.Theory.Spots.{Spot, start, behind, CanStop}
use Rattle.meaning.proofs.Deciding.Listed.{Listed, nothing, only, either, same, given, mapped, image}
use Rattle.meaning.proofs.Deciding.Bounds.{within_decided}
use Rattle.meaning.proofs.Places.Spots.{Move, CanMove}

-- a reading of the part may end with the place, or not
end_decided : (e : Expr) (p : Place e) → Dec (CanEnd e p)
unfolding Dec.and dec_le
end_decided empty p = no (λ c. c)
end_decided (event c) p = yes tt
end_decided (choice l r) (inl p) = end_decided l p
end_decided (choice l r) (inr p) = end_decided r p
end_decided (sequence l r) (inl p) = Dec.and (end_decided l p) (Bool-discrete (nullable r) true)
end_decided (sequence l r) (inr p) = end_decided r p
end_decided (repeat b lower upper) p = Dec.and (end_decided b p.0) (dec_le (low (nullable b) lower) (suc p.1))

-- a reading may stop at the spot, or not
unfoldable pub stop_decided : (e : Expr) (k : Spot e) → Dec (CanStop e k)
unfolding end_decided
stop_decided e start = Bool-discrete (nullable e) true
stop_decided e (behind p) = end_decided e p

-- what f makes of something, with the property
abbrev pub Made : {A B : Type 0} → (B → Type 0) → (A → B) → B → Type 0
Made {A} R f w = (v : A) × R (f v) × (w ≡ f v)

module _ {A B C : Type 0} where
  -- a move within the left, and one within the right
  abbrev pub on_left : A × C → (A ⊎ B) × C
  on_left w = (inl w.0, w.1)

  abbrev pub on_right : B × C → (A ⊎ B) × C
  on_right w = (inr w.0, w.1)

  -- every move is one of the two
  pub side_of : (R : (A ⊎ B) × C → Type 0) (s : A ⊎ B) (c : C) → R (s, c) → Made R on_left (s, c) ⊎ Made R on_right (s, c)
  side_of R (inl a) c r = inl ((a, c), r, refl)
  side_of R (inr b) c r = inr ((b, c), r, refl)

  -- the moves within either
  sides : {R : (A ⊎ B) × C → Type 0} → Listed (λ w. R (on_left w)) → Listed (λ w. R (on_right w)) → Listed R
  unfolding same either mapped
  sides {R} l m =
      let all = either (mapped on_left l) (mapped on_right m) in
      same all (λ w. ⊎_elim (λ h. subst R (sym h.2) h.1) (λ h. subst R (sym h.2) h.1)) (λ w. side_of R w.0 w.1)

-- the part may begin with the place, and these are the openings on the way
abbrev CanStartBy : ℕ → (e : Expr) → Move e → Type 0
CanStartBy s e v = CanStart e v.0 × (v.1 ≡ opens s e v.0)

-- the places that a part may begin with
start_list : (s : ℕ) (e : Expr) → Listed (CanStartBy s e)
unfolding nothing only same given image sides
start_list s empty = nothing (λ v c. c.0)
start_list s (event c) = same (only (tt, [])) (λ v h. (tt, ap (λ (w : Unit {0} × List Item). w.1) h)) (λ v h. let e = h.1 in λ i. (tt, e i))
start_list s (choice l r) = sides (start_list s l) (start_list (s + size l) r)
start_list s (sequence l r) =
    let right = given (Bool-discrete (nullable l) true) (start_list (s + size l) r) in
    sides (start_list s l) (same right (λ v h. ((h.0, h.1.0), h.1.1)) (λ v h. (h.0.0, (h.0.1, h.1))))
start_list s (repeat b lower upper) =
    let o = opening (s + size b) in
    image
    (λ (v : Move b). ((v.0, zero), o ∷ v.1))
    (start_list s b)
    (λ v h. ((h.0, refl), ap {B = List Item} (λ m. o ∷ m) h.1))
    (λ v h. let k = h.0.1 in let m = h.1 in ((v.0.0, opens s b v.0.0), (h.0.0, refl), λ i. ((v.0.0, k i), m i)))

-- a move from the left of a sequence to its right
abbrev Across : ℕ → (l r : Expr) → Place l → Move r → Type 0
Across s l r p v = Step s (sequence l r) (inl p) (inr v.0) v.1

-- those moves, as a list
across_list : (s : ℕ) (l r : Expr) (p : Place l) → Listed (Across s l r p)
unfolding given image end_decided start_list
across_list s l r p =
    image
    (λ (v : Move r). (v.0, closes s l p ++ v.1))
    (given (end_decided l p) (start_list (s + size l) r))
    (λ v h. (h.0, h.1.0, ap {B = List Item} (λ m. closes s l p ++ m) h.1.1))
    (λ v h. let m = h.2 in ((v.0, opens (s + size l) r v.0), (h.0, (h.1, refl)), λ i. (v.0, m i)))

-- a move within a block of a repeat
abbrev WithinBlock : ℕ → (b : Expr) (lower : ℕ) (upper : Upper) → Place b × ℕ → Move (repeat b lower upper) → Type 0
WithinBlock s b lower upper p v = Step s b p.0 v.0.0 v.1 × (v.0.1 ≡ p.1)

-- a move to the next block of a repeat
abbrev Again : ℕ → (b : Expr) (lower : ℕ) (upper : Upper) → Place b × ℕ → Move (repeat b lower upper) → Type 0
Again s b lower upper p v =
    CanEnd b p.0
    × CanStart b v.0.0
    × (v.0.1 ≡ suc p.1)
    × Within (suc v.0.1) upper
    × (v.1 ≡ closes s b p.0 ++ (closing (s + size b) ∷ opening (s + size b) ∷ opens s b v.0.0))

-- those moves, as lists
inside_list : (s : ℕ) (b : Expr) (lower : ℕ) (upper : Upper) (p : Place b × ℕ) → Listed (λ (v : Move b). Step s b p.0 v.0 v.1)
    → Listed (WithinBlock s b lower upper p)
unfolding image
inside_list s b lower upper p l =
    image (λ (v : Move b). ((v.0, p.1), v.1)) l (λ v h. (h, refl)) (λ v h. let k = h.1 in ((v.0.0, v.1), h.0, λ i. ((v.0.0, k i), v.1)))

again_list : (s : ℕ) (b : Expr) (lower : ℕ) (upper : Upper) (p : Place b × ℕ) → Listed (Again s b lower upper p)
unfolding given image end_decided within_decided start_list Dec.and
again_list s b lower upper p =
    let turn : List Item → List Item = λ m. closes s b p.0 ++ (closing (s + size b) ∷ opening (s + size b) ∷ m) in
    image
    (λ (v : Move b). ((v.0, suc p.1), turn v.1))
    (given (Dec.and (end_decided b p.0) (within_decided (suc (suc p.1)) upper)) (start_list s b))
    (λ v h. (h.0.0, h.1.0, refl, h.0.1, ap turn h.1.1))
    (λ v h.
    let k = h.2 in
    let m = h.4 in
    let within = subst (λ (j : ℕ). Within (suc j) upper) k h.3 in
    ((v.0.0, opens s b v.0.0), ((h.0, within), (h.1, refl)), λ i. ((v.0.0, k i), m i)))

-- the places that can come next
next_list : (s : ℕ) (e : Expr) (p : Place e) → Listed (λ (v : Move e). Step s e p v.0 v.1)
unfolding nothing either sides across_list inside_list again_list
next_list s empty p = nothing (λ v t. t)
next_list s (event c) p = nothing (λ v t. t)
next_list s (choice l r) (inl p) = sides (next_list s l p) (nothing (λ v t. t))
next_list s (choice l r) (inr p) = sides (nothing (λ v t. t)) (next_list (s + size l) r p)
next_list s (sequence l r) (inl p) = sides (next_list s l p) (across_list s l r p)
next_list s (sequence l r) (inr p) = sides (nothing (λ v t. t)) (next_list (s + size l) r p)
next_list s (repeat b lower upper) p = either (inside_list s b lower upper p (next_list s b p.0)) (again_list s b lower upper p)

-- the moves from a spot
unfoldable pub moves_list : (e : Expr) (k : Spot e) → Listed (CanMove e k)
unfolding start_list next_list
moves_list e start = start_list 0 e
moves_list e (behind p) = next_list 0 e p
