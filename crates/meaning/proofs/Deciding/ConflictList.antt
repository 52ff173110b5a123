-- First, after and the conflicts of an expression as lists: that there is no conflict, and which is the lowest, is found by computing.
use mathlib.Core.Path.{◌≡◌, refl, ap, subst}
use mathlib.Core.Logic.Dec
use mathlib.Core.Logic.{◌⊎◌, inl, inr, ⊎_elim}
use mathlib.Core.Bool.{Bool-discrete, true}
use Prim.Native.Nat.{ℕ, ◌+◌, ◌≤◌}
use native.Mathlib.Decide.{ℕ_discrete, dec_le}
use Rattle.meaning.specs.Expr.{Expr, empty, event, choice, sequence, repeat, size, root, Upper, Whole}
use Rattle.meaning.specs.Normal.{nullable, low}
use Rattle.meaning.specs.Sets.{First, Starts, Flexible, After}
use Rattle.meaning.specs.Conflict.{Conflict, ConflictAt, LowestConflict}
use Rattle.meaning.proofs.Deciding.Listed.{Listed, nothing, only, either, kept, same, given, image, some, holds, decided}
use Rattle.meaning.proofs.Deciding.Answer.{Answer, unknown, if_so, then, both, provided, every}
use Rattle.meaning.proofs.Deciding.Bounds.{within_decided}

-- the codes that are in two sets
shared : {P Q : ℕ → Type 0} → Listed P → Listed Q → Listed (λ c. P c × Q c)
unfolding kept holds ℕ_discrete
shared l m = kept l (holds ℕ_discrete m)

-- first, as a list
first_list : (e : Expr) → Listed (First e)
unfolding nothing only either given
first_list empty = nothing (λ c f. f)
first_list (event d) = only d
first_list (choice l r) = either (first_list l) (first_list r)
first_list (sequence l r) = either (first_list l) (given (Bool-discrete (nullable l) true) (first_list r))
first_list (repeat b lower upper) = first_list b

-- the part has an event to begin with, or not
starts_decided : (e : Expr) → Dec (Starts e)
unfolding some first_list
starts_decided e = some (first_list e)

-- a repeat may stop or go on after a block, or not
flexible_decided : (lower : ℕ) (upper : Upper) → Dec (Flexible lower upper)
unfolding Dec.and within_decided
flexible_decided lower upper = Dec.and (within_decided _ upper) (within_decided _ upper)

-- after, as a list
after_list : (e : Expr) → Listed (After e)
unfolding nothing either given first_list starts_decided flexible_decided
after_list empty = nothing (λ c f. f)
after_list (event d) = nothing (λ c f. f)
after_list (choice l r) = either (after_list l) (after_list r)
after_list (sequence l r) =
    either (after_list r) (given (Bool-discrete (nullable r) true) (either (after_list l) (given (starts_decided l) (first_list r))))
after_list (repeat b lower upper) = either (after_list b) (given (flexible_decided (low (nullable b) lower) upper) (first_list b))

-- a conflict by its kind and code
abbrev Clash : Expr → ℕ × ℕ → Type 0
Clash e w = Conflict e w.0 w.1

-- codes that a conflict of one kind shares
of_kind : {P : ℕ → Type 0} (k : ℕ) → Listed P → Listed (λ (w : ℕ × ℕ). (w.0 ≡ k) × P w.1)
unfolding image
of_kind k l = image (λ c. (k, c)) l (λ c h. (refl, h)) (λ w h. let e = h.0 in (w.1, h.1, λ i. (e i, w.1)))

-- the same with two facts about the code, and with three
of_kind_two : {P Q : ℕ → Type 0} (k : ℕ) → Listed (λ c. P c × Q c) → Listed (λ (w : ℕ × ℕ). (w.0 ≡ k) × P w.1 × Q w.1)
unfolding same of_kind
of_kind_two k l = same (of_kind k l) (λ w h. (h.0, h.1.0, h.1.1)) (λ w h. (h.0, (h.1, h.2)))

of_kind_three : {B : Type 0} {P Q : ℕ → Type 0} (k : ℕ) → Listed (λ c. B × (P c × Q c)) → Listed (λ (w : ℕ × ℕ). (w.0 ≡ k) × B × P w.1 × Q w.1)
unfolding same of_kind
of_kind_three k l = same (of_kind k l) (λ w h. (h.0, h.1.0, h.1.1.0, h.1.1.1)) (λ w h. (h.0, (h.1, (h.2, h.3))))

-- the conflicts of a part's own node, as a list
clash_list : (e : Expr) → Listed (Clash e)
unfolding nothing either given of_kind_two of_kind_three shared first_list after_list within_decided
clash_list empty = nothing (λ w f. f)
clash_list (event d) = nothing (λ w f. f)
clash_list (choice l r) = of_kind_two 1 (shared (first_list l) (first_list r))
clash_list (sequence l r) =
    let second = of_kind_three 2 (given (Bool-discrete (nullable l) true) (shared (first_list l) (first_list r))) in
    either second (of_kind_two 3 (shared (after_list l) (first_list r)))
clash_list (repeat b lower upper) = of_kind_three 4 (given (within_decided _ upper) (shared (after_list b) (first_list b)))

-- a conflict by its node, kind and code
abbrev pub Named : Type 0
Named = ℕ × ℕ × ℕ

-- such a conflict, in a part that P tells
abbrev ClashIn : (Named → Expr → Type 0) → Named → Type 0
ClashIn P w = (p : Expr) × P w p × Conflict p w.1 w.2

-- the conflicts of the whole's own node
own_list : (s : ℕ) (e : Expr) → Listed (ClashIn (λ w. Whole s e w.0))
unfolding image clash_list
own_list s e =
    image
    (λ (w : ℕ × ℕ). (root s e, w.0, w.1))
    (clash_list e)
    (λ w h. (e, (refl, refl), h))
    (λ w h. let k = h.1.0 in ((w.1, w.2), subst (λ p. Conflict p w.1 w.2) h.1.1 h.2, λ i. (k i, w.1, w.2)))

-- the conflicts in parts of the one sort or of the other
part_list : {P Q : Named → Expr → Type 0} → Listed (ClashIn P) → Listed (ClashIn Q) → Listed (ClashIn (λ w p. P w p ⊎ Q w p))
unfolding same either
part_list l m =
    same
    (either l m)
    (λ w. ⊎_elim (λ h. (h.0, inl h.1, h.2)) (λ h. (h.0, inr h.1, h.2)))
    (λ w h. ⊎_elim (λ k. inl (h.0, k, h.2)) (λ k. inr (h.0, k, h.2)) h.1)

-- all conflicts, as a list
unfoldable pub conflict_list : (s : ℕ) (e : Expr) → Listed (λ (w : Named). ConflictAt s e w.0 w.1 w.2)
unfolding own_list part_list
conflict_list s empty = own_list s empty
conflict_list s (event d) = own_list s (event d)
conflict_list s (choice l r) = part_list (conflict_list s l) (part_list (conflict_list (s + size l) r) (own_list s (choice l r)))
conflict_list s (sequence l r) = part_list (conflict_list s l) (part_list (conflict_list (s + size l) r) (own_list s (sequence l r)))
conflict_list s (repeat b lower upper) = part_list (conflict_list s b) (own_list s (repeat b lower upper))

-- there is no conflict
unfoldable pub no_conflict : (e : Expr) → Answer ((i k c : ℕ) → ¬ ConflictAt 0 e i k c)
unfolding then every conflict_list
no_conflict e = then (λ h i k c. h (i, k, c)) (every {Q = λ w. ⊥} (conflict_list 0 e) (λ w. unknown))

-- numbers that name a conflict can be told apart
unfoldable pub named_discrete : Discrete Named
unfolding decided Dec.and ℕ_discrete
named_discrete v w =
    let alike = Dec.and (ℕ_discrete v.0 w.0) (Dec.and (ℕ_discrete v.1 w.1) (ℕ_discrete v.2 w.2)) in
    decided (λ h i. (h.0 i, h.1.0 i, h.1.1 i)) (λ e. (ap (λ (u : Named). u.0) e, (ap (λ (u : Named). u.1) e, ap (λ (u : Named). u.2) e))) alike

-- a conflict is not below the one named
abbrev pub NotBelow : ℕ → ℕ → ℕ → Named → Type 0
NotBelow i k c w = (i ≤ w.0) × (w.0 ≡ i → k ≤ w.1) × (w.0 ≡ i → w.1 ≡ k → c ≤ w.2)

-- it is found not to be
not_below : (i k c : ℕ) (w : Named) → Answer (NotBelow i k c w)
unfolding then both provided if_so dec_le ℕ_discrete
not_below i k c w =
    let node = if_so (dec_le i w.0) in
    let kind = provided (ℕ_discrete w.0 i) (if_so (dec_le k w.1)) in
    let code = provided (ℕ_discrete w.0 i) (provided (ℕ_discrete w.1 k) (if_so (dec_le c w.2))) in
    then (λ h. (h.0, h.1.0, h.1.1)) (both node (both kind code))

-- a conflict that none is below is the lowest
pub lowest_of : (e : Expr) (i k c : ℕ) → ConflictAt 0 e i k c → ((w : Named) → ConflictAt 0 e w.0 w.1 w.2 → NotBelow i k c w)
    → LowestConflict e i k c
lowest_of e i k c h n =
    record {
      node = record { holds = (k, c, h); lowest = λ j a. (n (j, a.0, a.1) a.2).0 };
      kind = record { holds = (c, h); lowest = λ l a. (n (i, l, a.0) a.1).1 refl };
      code = record { holds = h; lowest = λ d a. (n (i, k, d) a).2 refl refl };
    }

-- the conflict named is the lowest
unfoldable pub lowest : (e : Expr) (i k c : ℕ) → Answer (LowestConflict e i k c)
unfolding then both if_so holds every conflict_list named_discrete not_below
lowest e i k c =
    let there = if_so (holds named_discrete (conflict_list 0 e) (i, k, c)) in
    then (λ h. lowest_of e i k c h.0 h.1) (both there (every (conflict_list 0 e) (not_below i k c)))
