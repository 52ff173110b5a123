-- A beginning of a word reaches a state, and only one where the procedure is strongly deterministic. The states that runs reach are the
-- start state and those whose counters are right for the event node reached.
use mathlib.Core.Path.{◌≡◌, refl, sym, ap, ap₂, ◌∙◌, subst, subst⁻¹}
use mathlib.Core.Logic.{◌↔◌, ◌⊎◌, inl, inr, ⊎_elim}
use mathlib.Core.List.{List, [], ◌∷◌, ◌++◌, append_assoc, append-nil}
use Prim.Native.Nat.{ℕ, zero, suc, ◌+◌, ◌≤◌}
use native.Mathlib.Omega.{arith}
use lib.ListN.{length, length-append, length-take}
use Rattle.meaning.specs.Expr.{Expr, empty, event, choice, sequence, repeat, size, Upper, upto, endless, Within, Bounded}
use Rattle.meaning.specs.Lists.{Or, left, right, Cat, cat}
use Rattle.meaning.specs.Normal.{nullable, low}
use Rattle.meaning.specs.Word.{Begins}
use Rattle.meaning.specs.Reading.{Item, place, codes, up_to, Reading}
use Rattle.meaning.specs.Strong.{StronglyDeterministic}
use Rattle.meaning.specs.State.{stop, State, state_of, Reaches, reaches}
use Rattle.meaning.specs.Theory.Places.{Place, node_of, code_at, Sound, Rest, Before}
use Rattle.meaning.specs.Theory.Counts.{zeros, place_counts, place_state, start_state, most}
use Rattle.meaning.proofs.Expressions.Items.{codes-append, codes-up_to, up_to_zero, up_to-append}
use Rattle.meaning.proofs.Expressions.WordReading.{begins_iff_reading}
use Rattle.meaning.proofs.Determinism.OneRecord.{readings_agree}
use Rattle.meaning.proofs.Places.Before.{before_rest_reading, some_reading, some_before, some_rest, reading_cut, before_ends}
use Rattle.meaning.proofs.State.Stays.{before_state}

-- a reading whose items up to the run's last event have the run's codes has as many events
pub run_within : (x : List Item) (u : List ℕ) → codes (up_to x (length u)) ≡ u → length u ≤ length (codes x)
run_within x u c =
    let a = ap {B = ℕ} length (sym c ∙ codes-up_to x (length u)) in
    let b = length-take (length u) (codes x) in
    omega arith

-- a run that reaches a state is a beginning of a word
pub reaches_begins : (e : Expr) → Bounded e → (u : List ℕ) (z : State) → Reaches e u z → Begins e u
reaches_begins e h u z (reaches x r c) = (begins_iff_reading 0 e h u).1 (x, r, c)

-- a beginning of a word reaches a state
pub begins_reaches : (e : Expr) → Bounded e → (u : List ℕ) → Begins e u → (z : State) × Reaches e u z
begins_reaches e h u b = let t = (begins_iff_reading 0 e h u).0 b in (state_of e (up_to t.0 (length u)), reaches t.0 t.1 t.2)

-- where the procedure is strongly deterministic, a run reaches at most one state
pub one_state : (e : Expr) → StronglyDeterministic e → (u : List ℕ) (z y : State) → Reaches e u z → Reaches e u y → z ≡ y
one_state e d u z y (reaches x r c) (reaches t q k) =
    let n = length u in
    let same = sym (codes-up_to x n) ∙ c ∙ sym k ∙ codes-up_to t n in
    ap (state_of e) (readings_agree e d n x t r q (run_within x u c) (run_within t u k) same)

-- exactly the beginnings of words reach a state there, and each reaches one
pub begins_iff_one_state : (e : Expr) → Bounded e → StronglyDeterministic e → (u : List ℕ)
    → Begins e u ↔ ((z : State) × Reaches e u z × ((y : State) → Reaches e u y → y ≡ z))
begins_iff_one_state e h d u =
    (λ b. let t = begins_reaches e h u b in (t.0, t.1, λ y r. one_state e d u y t.0 r t.1), λ t. reaches_begins e h u t.0 t.1)

-- items that end with an event, or none
pub data Stopped : List Item → Type 0 where
  nowhere : Stopped []
  ended : (x : List Item) (i c : ℕ) → Stopped (x ++ (place i c ∷ []))

-- with what follows, they are the items up to their last event
pub stopped_up_to : (a : List Item) → Stopped a → (y : List Item) (m n : ℕ) → n ≡ length (codes a) + m → up_to (a ++ y) n ≡ a ++ up_to y m
stopped_up_to a nowhere y m n h = ap (up_to y) (omega arith)
stopped_up_to a (ended x i c) y m n h =
    let all = ap {B = ℕ} length (codes-append x (place i c ∷ [])) ∙ length-append (codes x) (c ∷ []) in
    ap (λ (t : List Item). up_to t n) (append_assoc x (place i c ∷ []) y)
    ∙ up_to-append x (place i c ∷ y) m n (omega arith)
    ∙ sym (append_assoc x (place i c ∷ []) (up_to y m))

-- a reading parted at its start or just after an event: the items a, then the items y
pub data ReadingParted (e : Expr) : List Item → List Item → Type 0 where
  at_start : (y : List Item) → Reading 0 e y → ReadingParted e [] y
  at_place : (p : Place e) (a y : List Item) → Sound e p → Before 0 e p a → Rest 0 e p y → ReadingParted e a y

-- both parts together are a reading
pub parted_reading : (e : Expr) (a y : List Item) → ReadingParted e a y → Reading 0 e (a ++ y)
parted_reading e a y (at_start t r) = r
parted_reading e a y (at_place p b t k c r) = before_rest_reading 0 e p a y c r

-- the first part ends with an event, or is empty
pub parted_stopped : (e : Expr) (a y : List Item) → ReadingParted e a y → Stopped a
parted_stopped e a y (at_start t r) = nowhere
parted_stopped e a y (at_place p b t k c r) = let x = before_ends 0 e p a c in subst⁻¹ Stopped x.1 (ended x.0 (node_of 0 e p) (code_at e p))

-- a reading can be parted after each event
pub reading_parted : (e : Expr) → Bounded e → (x : List Item) (n : ℕ) → Reading 0 e x → n ≤ length (codes x)
    → (y : List Item) × ReadingParted e (up_to x n) y × (x ≡ up_to x n ++ y)
reading_parted e h x zero r k = let z = up_to_zero x in (x, subst⁻¹ (λ (a : List Item). ReadingParted e a x) z (at_start x r), ap (λ (a : List Item). a ++ x) (sym z))
reading_parted e h x (suc n) r k =
    let t = reading_cut 0 e h x n r k in (t.after, at_place t.reached (up_to x (suc n)) t.after t.sound t.before t.rest, t.whole)

-- the run of a reading's first items reaches the state after them
pub reaches_items : (e : Expr) (u : List ℕ) (x a : List Item) → Reading 0 e x → up_to x (length u) ≡ a → codes a ≡ u → Reaches e u (state_of e a)
reaches_items e u x a r h c = subst (λ (t : List Item). Reaches e u (state_of e t)) h (reaches x r (ap codes h ∙ c))

-- the run of the first part reaches the state after it
pub parted_reaches : (e : Expr) (a y : List Item) → ReadingParted e a y → Reaches e (codes a) (state_of e a)
parted_reaches e a y t =
    let up = stopped_up_to a (parted_stopped e a y t) y 0 (length (codes a)) (omega arith) ∙ ap {B = List Item} (λ v. a ++ v) (up_to_zero y) ∙ append-nil a in
    reaches_items e (codes a) (a ++ y) a (parted_reading e a y t) up refl

-- the run without events reaches it
pub reaches_start : (e : Expr) → Bounded e → Reaches e [] (start_state e)
reaches_start e h = let t = some_reading 0 e h in parted_reaches e [] t.0 (at_start t.0 t.1)

-- the counter of a repeat that encloses the node reached: from 1 to the most it holds
pub data Counting (lower : ℕ) (upper : Upper) : List ℕ → Type 0 where
  counting : (k : ℕ) → 1 ≤ k → k ≤ most lower upper → Counting lower upper (k ∷ [])

-- every counter of the part is 0
abbrev pub Zeros : Expr → List ℕ → Type 0
Zeros e counts = counts ≡ zeros e

-- node i is an event of the part that begins at s, the counters of the repeats around it are from 1 to their most, and the others are 0
abbrev pub CountersAt : ℕ → Expr → ℕ → List ℕ → Type 0
CountersAt s empty i = λ counts. ⊥
CountersAt s (event c) i = λ counts. (i ≡ s) × (counts ≡ [])
CountersAt s (choice l r) i = Or (Cat (CountersAt s l i) (Zeros r)) (Cat (Zeros l) (CountersAt (s + size l) r i))
CountersAt s (sequence l r) i = Or (Cat (CountersAt s l i) (Zeros r)) (Cat (Zeros l) (CountersAt (s + size l) r i))
CountersAt s (repeat b lower upper) i = Cat (CountersAt s b i) (Counting (low (nullable b) lower) upper)

-- a repeat that has begun a block within its bound counts from 1 to its most
pub stop_within : (lower k : ℕ) (upper : Upper) → Within (suc k) upper → (1 ≤ stop lower upper (suc k)) × (stop lower upper (suc k) ≤ most lower upper)
stop_within lower k (upto n) h = (omega arith, h)
stop_within lower k endless h = (omega arith, omega arith)

stop_counting : (lower k : ℕ) (upper : Upper) → Within (suc k) upper → Counting lower upper (stop lower upper (suc k) ∷ [])
stop_counting lower k upper h = let t = stop_within lower k upper h in counting (stop lower upper (suc k)) t.0 t.1

-- the counters of a sound place are right for its node
place_counters : (s : ℕ) (e : Expr) (p : Place e) → Sound e p → CountersAt s e (node_of s e p) (place_counts e p)
place_counters s empty p k = absurd k
place_counters s (event c) p k = (refl, refl)
place_counters s (choice l r) (inl p) k = left (cat (place_counts l p) (zeros r) (place_counters s l p k) refl)
place_counters s (choice l r) (inr p) k = right (cat (zeros l) (place_counts r p) refl (place_counters (s + size l) r p k))
place_counters s (sequence l r) (inl p) k = left (cat (place_counts l p) (zeros r) (place_counters s l p k) refl)
place_counters s (sequence l r) (inr p) k = right (cat (zeros l) (place_counts r p) refl (place_counters (s + size l) r p k))
place_counters s (repeat b lower upper) p k =
    cat (place_counts b p.0) _ (place_counters s b p.0 k.0) (stop_counting (low (nullable b) lower) p.1 upper k.1)

-- what a counter may hold is a number of blocks within the bound, and is counted as it is
pub most_within : (lower k : ℕ) (upper : Upper) → k ≤ most lower upper → Within k upper
most_within lower k (upto n) h = h
most_within lower k endless h = tt

pub most-stop : (lower k : ℕ) (upper : Upper) → k ≤ most lower upper → stop lower upper k ≡ k
most-stop lower k (upto n) h = refl
most-stop lower k endless h = omega arith

-- counters that are right for a node are those of a sound place
counters_sound_place : (s : ℕ) (e : Expr) (i : ℕ) (counts : List ℕ) → CountersAt s e i counts
    → (p : Place e) × Sound e p × (node_of s e p ≡ i) × (place_counts e p ≡ counts)
counters_sound_place s empty i counts h = absurd h
counters_sound_place s (event c) i counts h = (tt, tt, sym h.0, sym h.1)
counters_sound_place s (choice l r) i counts (left (cat a v h z)) =
    let t = counters_sound_place s l i a h in (inl t.0, t.1, t.2, ap₂ ◌++◌ t.3 (sym z))
counters_sound_place s (choice l r) i counts (right (cat a v z h)) =
    let t = counters_sound_place (s + size l) r i v h in (inr t.0, t.1, t.2, ap₂ ◌++◌ (sym z) t.3)
counters_sound_place s (sequence l r) i counts (left (cat a v h z)) =
    let t = counters_sound_place s l i a h in (inl t.0, t.1, t.2, ap₂ ◌++◌ t.3 (sym z))
counters_sound_place s (sequence l r) i counts (right (cat a v z h)) =
    let t = counters_sound_place (s + size l) r i v h in (inr t.0, t.1, t.2, ap₂ ◌++◌ (sym z) t.3)
counters_sound_place s (repeat b lower upper) i counts (cat a v h (counting zero lo up)) = absurd (omega arith)
counters_sound_place s (repeat b lower upper) i counts (cat a v h (counting (suc k) lo up)) =
    let t = counters_sound_place s b i a h in
    let m = low (nullable b) lower in
    ((t.0, k), (t.1, most_within m (suc k) upper up), t.2, ap₂ (λ (x : List ℕ) (n : ℕ). x ++ (n ∷ [])) t.3 (most-stop m (suc k) upper up))

-- the state is the start state, or its node is an event's and its counters are right for it
abbrev pub Reachable : Expr → State → Type 0
Reachable e z = (z ≡ start_state e) ⊎ ((i : ℕ) × (z.node ≡ i + 1) × CountersAt 0 e i z.counts)

-- where a reading is parted, the state is reachable
parted_reachable : (e : Expr) (a y : List Item) → ReadingParted e a y → Reachable e (state_of e a)
parted_reachable e a y (at_start t r) = inl refl
parted_reachable e a y (at_place p b t k c r) =
    subst⁻¹ (Reachable e) (before_state e p a c) (inr (node_of 0 e p, refl, place_counters 0 e p k))

-- a state is reached by some run exactly if it is reachable
pub reached_iff : (e : Expr) → Bounded e → (z : State) → ((u : List ℕ) × Reaches e u z) ↔ Reachable e z
reached_iff e h z = (λ t. forth t.0 z t.1, ⊎_elim (λ s. subst⁻¹ SomeRunReaches s ([], reaches_start e h)) at)
  where
    SomeRunReaches : State → Type 0
    SomeRunReaches y = (u : List ℕ) × Reaches e u y

    forth : (u : List ℕ) (y : State) → Reaches e u y → Reachable e y
    forth u y (reaches x r c) = let t = reading_parted e h x (length u) r (run_within x u c) in parted_reachable e (up_to x (length u)) t.0 t.1

    at : (i : ℕ) × (z.node ≡ i + 1) × CountersAt 0 e i z.counts → SomeRunReaches z
    at t =
        let p = counters_sound_place 0 e t.0 z.counts t.2 in
        let a = some_before 0 e h p.0 p.1 in
        let y = some_rest 0 e h p.0 p.1 in
        let n : node_of 0 e p.0 + 1 ≡ z.node = ap (λ (k : ℕ). k + 1) p.2 ∙ sym t.1 in
        let c = p.3 in
        let same : place_state e p.0 ≡ z = λ j. record { node = n j; counts = c j } in (
          codes a.0,
          subst (Reaches e (codes a.0)) (before_state e p.0 a.0 a.1 ∙ same)
              (parted_reaches e a.0 y.0 (at_place p.0 a.0 y.0 p.1 a.1 y.1)),
        )
