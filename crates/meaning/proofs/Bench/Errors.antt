-- Four errors that look right: what each wrong formula says of its bench case, and what ours says.
use mathlib.Core.Path.{◌≡◌, refl}
use mathlib.Core.Logic.{◌⊎◌, inr, ⊎_elim}
use mathlib.Core.Bool.{So}
use mathlib.Core.List.{List, [], ◌∷◌, ◌++◌, map}
use Prim.Native.Nat.{ℕ, ◌*◌, ◌<◌}
use native.Mathlib.Omega.{arith}
use Rattle.meaning.specs.Expr.{Expr, empty, event, choice, sequence, repeat, size, Upper, upto, Within}
use Rattle.meaning.specs.Lists.{Power, none, more, Times, times, one, left, right, nil}
use Rattle.meaning.specs.Normal.{nullable}
use Rattle.meaning.specs.Word.{Word}
use Rattle.meaning.specs.Reading.{Item, place, opening, closing, Reading, codes}
use Rattle.meaning.specs.Strong.{StronglyDeterministic}
use Rattle.meaning.specs.Sets.{First, After}
use Rattle.meaning.specs.Record.{item_number}
use Rattle.meaning.proofs.Deciding.Answer.{answered}
use Rattle.meaning.proofs.Bench.Bench.{Says, admitted, recorded, decide, b2, b5, b9, b10}

-- two sets share a code
abbrev pub Share : (ℕ → Type 0) → (ℕ → Type 0) → Type 0
Share P Q = (c : ℕ) × P c × Q c

-- a set without a code shares none
nothing_shared : {P Q : ℕ → Type 0} → ((c : ℕ) → ¬ P c) → ¬ Share P Q
nothing_shared n h = n h.0 h.1

-- c{0,1}
abbrev pub optional : ℕ → Expr
optional c = repeat (event c) 0 (upto 1)

-- a{2,2}
abbrev pub twice : Expr
twice = repeat (event 0) 2 (upto 2)

-- after of c{0,1} has no code
no_after_optional : (d c : ℕ) → ¬ After (optional d) c
no_after_optional d c = ⊎_elim (λ h. h) (λ h. let l = h.0.0 in omega arith)

-- after of a{2,2} has no code
no_after_twice : (c : ℕ) → ¬ After twice c
no_after_twice c = ⊎_elim (λ h. h) (λ h. let l = h.0.1 in omega arith)

-- "flexible" read literally: in some word of the whole stands a run of l words of the repeat and of k words of its body, k below l times upper
abbrev pub FlexibleRead : Expr → Expr → ℕ → ℕ → Type 0
FlexibleRead e b lower upper =
    (u : List ℕ)
    × (w : List ℕ)
    × (v : List ℕ)
    × Word e (u ++ w ++ v)
    × ((l : ℕ) × (k : ℕ) × Power (Word (repeat b lower (upto upper))) l w × Power (Word b) k w × (k < l * upper))

-- after of a repeat by it
abbrev pub AfterRead : Expr → Expr → ℕ → ℕ → ℕ → Type 0
AfterRead e b lower upper c = After b c ⊎ (FlexibleRead e b lower upper × First b c)

-- a{0,1} is flexible through the empty word, and B2 would have a conflict of kind 4
pub flexible_by_nothing : Share (AfterRead b2 (event 0) 0 1) (First (optional 0)) × ¬ Share (After (optional 0)) (First (optional 0)) × StronglyDeterministic b2
unfolding decide
flexible_by_nothing =
    let empty_run : Word b2 [] = times 0 (omega arith) (omega arith) none in
    let one_word : Power (Word (optional 0)) 1 [] = more 0 [] [] (times 0 (omega arith) (omega arith) none) none in
    let flexible : FlexibleRead b2 (event 0) 0 1 = ([], [], [], empty_run, (1, 0, one_word, none, omega arith)) in
    ((0, inr (flexible, refl), refl), nothing_shared (no_after_optional 0), answered (decide b2 admitted) tt)

-- after of a sequence, with first of the right added whenever the right may be empty
abbrev pub AfterAdded : Expr → Expr → ℕ → Type 0
AfterAdded l r c = After r c ⊎ (So (nullable r) × (After l c ⊎ First r c))

-- where the left is empty, after has no code that after of the right has not
no_after_empty : (r : Expr) → ((c : ℕ) → ¬ After r c) → (c : ℕ) → ¬ After (sequence empty r) c
no_after_empty r n c = ⊎_elim (n c) (λ h. ⊎_elim (λ f. f) (λ f. f.0.1) h.1)

-- the left of B9's body has no event, and B9 would have a conflict of kind 4
pub added_without_event :
    Share (AfterAdded empty (optional 1)) (First (sequence empty (optional 1)))
    × ¬ Share (After (sequence empty (optional 1))) (First (sequence empty (optional 1)))
    × StronglyDeterministic b9
unfolding decide
added_without_event =
    ((1, inr (refl, inr refl), inr (refl, refl)), nothing_shared (no_after_empty (optional 1) (no_after_optional 1)), answered (decide b9 admitted) tt)

-- after of a repeat that could stop after any block
abbrev pub AfterAny : Expr → Upper → ℕ → Type 0
AfterAny b upper c = After b c ⊎ (Within 2 upper × First b c)

-- a{2,2} could stop at one, and B5 would have a conflict of kind 3
pub stopping_at_one : Share (AfterAny (event 0) (upto 2)) (First (event 0)) × ¬ Share (After twice) (First (event 0)) × StronglyDeterministic b5
unfolding decide
stopping_at_one = ((0, inr (omega arith, refl), refl), nothing_shared no_after_twice, answered (decide b5 admitted) tt)

-- blocks that may hold no event, counted towards the lower bound as written
pub data AnyBlock (P : List Item → Type 0) (r : ℕ) : List Item → Type 0 where
  any_block : (x : List Item) → P x → AnyBlock P r (opening r ∷ (x ++ (closing r ∷ [])))

-- readings of a repeat by them
abbrev pub ReadingCounted : Expr → ℕ → Upper → List Item → Type 0
ReadingCounted b lower upper = Times (AnyBlock (Reading 0 b) (size b)) lower upper

-- a record of B10's run a would have two openings with nothing in them; the record has none
pub empty_blocks_counted :
    ((x : List Item)
    × ReadingCounted (choice (event 0) empty) 3 (upto 3) x
    × (codes x ≡ 0 ∷ [])
    × (map item_number x ≡ 4099 ∷ 8195 ∷ 4099 ∷ 8195 ∷ 4099 ∷ 0 ∷ 8195 ∷ []))
    × Says b10 (recorded (0 ∷ []) (4099 ∷ 0 ∷ 8195 ∷ []))
unfolding decide
empty_blocks_counted =
    let P = Reading 0 (choice (event 0) empty) in
    let bare : List Item = opening 3 ∷ closing 3 ∷ [] in
    let held : List Item = opening 3 ∷ place 0 0 ∷ closing 3 ∷ [] in
    let nothing : AnyBlock P 3 bare = any_block [] (right nil) in
    let event_in : AnyBlock P 3 held = any_block (place 0 0 ∷ []) (left one) in
    let blocks : Power (AnyBlock P 3) 3 (bare ++ (bare ++ held)) = more 2 bare (bare ++ held) nothing (more 1 bare held nothing (more 0 held [] event_in none)) in
    ((bare ++ (bare ++ held), times 3 (omega arith) (omega arith) blocks, refl, refl), answered (decide b10 (recorded (0 ∷ []) (4099 ∷ 0 ∷ 8195 ∷ []))) tt)
