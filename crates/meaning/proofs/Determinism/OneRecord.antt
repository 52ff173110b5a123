-- A strongly deterministic expression has one reading, hence one record, for each word.
use mathlib.Core.Path.{◌≡◌, refl, sym, ◌∙◌, ap, subst⁻¹}
use mathlib.Core.Logic.{inl, inr}
use mathlib.Core.List.{List, [], ◌∷◌, ◌++◌}
use Prim.Native.Nat.{ℕ, zero, suc, ◌+◌, ◌≤◌}
use native.Mathlib.Omega.{arith}
use lib.ListN.{length, take}
use lib.Seq.{length-take-le}
use Rattle.meaning.specs.Expr.{Expr, empty, event, choice, sequence, repeat, size, Bounded}
use Rattle.meaning.specs.Lists.{Cat, cat, one}
use Rattle.meaning.specs.Reading.{Item, opening, closing, codes, up_to, Reading}
use Rattle.meaning.specs.Strong.{StronglyDeterministic}
use Rattle.meaning.specs.Word.{Word}
use Rattle.meaning.specs.Theory.Places.{Place, node_of, code_at, item_of, opens, closes, Before}
use Rattle.meaning.specs.Theory.Conflicts.{Free}
use Rattle.meaning.proofs.Places.Before.{reading_cut}
use Rattle.meaning.proofs.General.Facts.{last_or, last_append}
use Rattle.meaning.proofs.Expressions.Items.{codes_event, events_append, codes-up_to}
use Rattle.meaning.proofs.Places.Marks.{left_not_right}
use Rattle.meaning.proofs.Places.Steps.{Begun, nothing, first, reading_begun, Goes, ends, steps, rest_goes}
use Rattle.meaning.proofs.Determinism.Unique.{free_strong}
use Rattle.meaning.proofs.Expressions.WordReading.{word_iff_reading}

-- two readings whose codes agree up to the n-th event agree in every item up to it
pub readings_agree : (e : Expr) → StronglyDeterministic e → (n : ℕ) (x y : List Item) → Reading 0 e x → Reading 0 e y
    → n ≤ length (codes x) → n ≤ length (codes y) → take n (codes x) ≡ take n (codes y) → up_to x n ≡ up_to y n
unfolding StronglyDeterministic
readings_agree e d = d

-- the closings after a place depend on its node alone
closes_by_node : (s : ℕ) (e : Expr) (p q : Place e) → node_of s e p ≡ node_of s e q → closes s e p ≡ closes s e q
closes_by_node s empty p q h = absurd p
closes_by_node s (event c) p q h = refl
closes_by_node s (choice l r) (inl p) (inl q) h = closes_by_node s l p q h
closes_by_node s (choice l r) (inl p) (inr q) h = absurd (left_not_right s l r p q h)
closes_by_node s (choice l r) (inr p) (inl q) h = absurd (left_not_right s l r q p (sym h))
closes_by_node s (choice l r) (inr p) (inr q) h = closes_by_node (s + size l) r p q h
closes_by_node s (sequence l r) (inl p) (inl q) h = closes_by_node s l p q h
closes_by_node s (sequence l r) (inl p) (inr q) h = absurd (left_not_right s l r p q h)
closes_by_node s (sequence l r) (inr p) (inl q) h = absurd (left_not_right s l r q p (sym h))
closes_by_node s (sequence l r) (inr p) (inr q) h = closes_by_node (s + size l) r p q h
closes_by_node s (repeat b lower upper) p q h = ap (λ (x : List Item). x ++ (closing (s + size b) ∷ [])) (closes_by_node s b p.0 q.0 h)

-- the last item of the second of two lists is that of both
cat_last : (a : Item) {P Q : List Item → Type 0} (u : List Item) → Cat P Q u → ((v : List Item) → Q v → (d : Item) → last_or d v ≡ a)
    → (d : Item) → last_or d u ≡ a
cat_last a u (cat x y p q) f d = last_append d x y ∙ f y q (last_or d x)

-- the items before a place end with its event
before_last : (s : ℕ) (e : Expr) (p : Place e) (u : List Item) → Before s e p u → (d : Item) → last_or d u ≡ item_of s e p
before_last s empty p u b d = absurd b
before_last s (event c) p u one d = refl
before_last s (choice l r) (inl p) u b d = before_last s l p u b d
before_last s (choice l r) (inr p) u b d = before_last (s + size l) r p u b d
before_last s (sequence l r) (inl p) u b d = before_last s l p u b d
before_last s (sequence l r) (inr p) u b d = cat_last (item_of (s + size l) r p) u b (before_last (s + size l) r p) d
before_last s (repeat body lower upper) p u b d =
    cat_last (item_of s body p.0) u b (λ v c. cat_last (item_of s body p.0) v c (before_last s body p.0)) d

-- after the same items the same closings end a reading
same_before_closes : (s : ℕ) (e : Expr) (p q : Place e) (u : List Item) → Before s e p u → Before s e q u → closes s e p ≡ closes s e q
same_before_closes s e p q u a b =
    let x = before_last s e p u a (opening 0) in
    let y = before_last s e q u b (opening 0) in
    closes_by_node s e p q (cc)

-- what completes a reading without an event is the closings of its place
rest_no_event : (s : ℕ) (e : Expr) (p : Place e) (y : List Item) → length (codes y) ≡ 0 → Goes s e p y → y ≡ closes s e p
rest_no_event s e p y h (ends c) = refl
rest_no_event s e p y h (steps q m v t r) = let k = codes_event m (node_of s e q) (code_at e q) v in absurd (omega arith)

-- a reading without an event is empty
reading_no_event : (s : ℕ) (e : Expr) (x : List Item) → length (codes x) ≡ 0 → Begun s e x → x ≡ []
reading_no_event s e x h (nothing n) = refl
reading_no_event s e x h (first q y c r) = let k = codes_event (opens s e q) (node_of s e q) (code_at e q) y in absurd (omega arith)

-- the items are those up to the n-th event, and the closings of the place that these reach
record Finished (e : Expr) (x : List Item) (n : ℕ) : Type 0 where
  reached : Place e
  before : Before 0 e reached (up_to x n)
  whole : x ≡ up_to x n ++ closes 0 e reached

-- a reading of n events is such a list
finished : (e : Expr) → Bounded e → (x : List Item) (n : ℕ) → Reading 0 e x → length (codes x) ≡ suc n → Finished e x (suc n)
finished e h x n a k =
    let t = reading_cut 0 e h x n a (omega arith) in
    let u = up_to x (suc n) in
    let all = ap {B = ℕ} (λ (z : List Item). length (codes z)) t.whole ∙ events_append u t.after in
    let front = ap {B = ℕ} length (codes-up_to x (suc n)) ∙ length-take-le (suc n) (codes x) (omega arith) in
    let c = rest_no_event 0 e t.reached t.after (omega arith) (rest_goes 0 e h t.reached t.after t.rest) in
    record { reached = t.reached; before = t.before; whole = t.whole ∙ ap (λ (z : List Item). u ++ z) c }

-- readings with the same codes are the same
pub same_codes_same_reading : (e : Expr) → Bounded e → StronglyDeterministic e → (x y : List Item) → Reading 0 e x → Reading 0 e y → codes x ≡ codes y → x ≡ y
same_codes_same_reading e h d x y a b c = by_events (length (codes x)) refl (ap {B = ℕ} length (sym c))
  where
    by_events : (n : ℕ) → length (codes x) ≡ n → length (codes y) ≡ length (codes x) → x ≡ y
    by_events zero k l =
        reading_no_event 0 e x k (reading_begun 0 e h x a) ∙ sym (reading_no_event 0 e y (omega arith) (reading_begun 0 e h y b))
    by_events (suc n) k l =
        let p = finished e h x n a k in
        let q = finished e h y n b (omega arith) in
        let i = readings_agree e d (suc n) x y a b (omega arith) (omega arith) (ap (take (suc n)) c) in
        let z = same_before_closes 0 e p.reached q.reached (up_to x (suc n)) p.before (subst⁻¹ (Before 0 e q.reached) i q.before) in
        p.whole ∙ (λ j. i j ++ z j) ∙ sym q.whole

-- the same where no node has a conflict
pub reading_unique : (e : Expr) → Bounded e → Free e → (x y : List Item) → Reading 0 e x → Reading 0 e y → codes x ≡ codes y → x ≡ y
reading_unique e h f = same_codes_same_reading e h (free_strong e h f)

-- a word has exactly one reading
pub word_one_reading : (e : Expr) → Bounded e → StronglyDeterministic e → (w : List ℕ) → Word e w
    → (x : List Item) × Reading 0 e x × (codes x ≡ w) × ((y : List Item) → Reading 0 e y → codes y ≡ w → y ≡ x)
word_one_reading e h d w k =
    let r = (word_iff_reading 0 e h w).0 k in
    (r.0, r.1, r.2, λ y b c. same_codes_same_reading e h d y r.0 b r.1 (c ∙ sym r.2))
