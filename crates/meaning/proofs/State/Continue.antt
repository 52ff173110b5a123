-- Places with the same state go on alike: a counter that stops at its cap gives the same answers ever after as one that does not.
-- So two runs that reach one state have the same continuations where the procedure is strongly deterministic; for (a+e) a they do not.
use mathlib.Core.Path.{◌≡◌, refl, sym, ap, ap₂, ◌∙◌, subst, subst⁻¹}
use mathlib.Core.Logic.{◌↔◌, inl, inr}
use mathlib.Core.Bool.{Bool, true, false, cond}
use mathlib.Core.List.{List, [], ◌∷◌, ◌++◌, append_assoc, append_cancel_left, append_cancel_right}
use Prim.Native.Nat.{ℕ, suc, ◌+◌, ◌≤◌}
use native.Mathlib.Omega.{arith}
use lib.Dec.{eqb}
use lib.ListN.{length, take, length-append}
use lib.Seq.{take-take, take-append_seam}
use Rattle.meaning.specs.Expr.{Expr, empty, event, choice, sequence, repeat, size, Upper, upto, endless, Bounded}
use Rattle.meaning.specs.Lists.{nil, one, left, right, cat}
use Rattle.meaning.specs.Normal.{nullable, low}
use Rattle.meaning.specs.Word.{Word, Begins}
use Rattle.meaning.specs.Reading.{Item, place, opening, closing, codes, up_to, Reading}
use Rattle.meaning.specs.Strong.{StronglyDeterministic}
use Rattle.meaning.specs.State.{opens_next, begun, stop, counters, reached, State, state_of, Reaches, reaches}
use Rattle.meaning.specs.Theory.Places.{Place, node_of, Blocks, blocks, Rest, Before}
use Rattle.meaning.specs.Theory.Counts.{zeros, place_counts, place_state}
use Rattle.meaning.proofs.General.Facts.{append_split, last_split, length_both}
use Rattle.meaning.proofs.Expressions.Items.{codes-append, codes-up_to}
use Rattle.meaning.proofs.Places.Marks.{left_not_right}
use Rattle.meaning.proofs.Expressions.WordReading.{word_iff_reading}
use Rattle.meaning.proofs.State.Stays.{reached-append, before_state}
use Rattle.meaning.proofs.State.States.{run_within, one_state, Stopped, nowhere, ended, stopped_up_to, ReadingParted, at_start, at_place, parted_reading, parted_stopped, reading_parted, reaches_items}

-- the places differ at most in the counts of blocks beyond the cap of a repeat without upper bound
abbrev pub Alike : (e : Expr) → Place e → Place e → Type 0
Alike empty p q = ⊥
Alike (event c) p q = Unit {0}
Alike (choice l r) (inl p) (inl q) = Alike l p q
Alike (choice l r) (inl p) (inr q) = ⊥
Alike (choice l r) (inr p) (inl q) = ⊥
Alike (choice l r) (inr p) (inr q) = Alike r p q
Alike (sequence l r) (inl p) (inl q) = Alike l p q
Alike (sequence l r) (inl p) (inr q) = ⊥
Alike (sequence l r) (inr p) (inl q) = ⊥
Alike (sequence l r) (inr p) (inr q) = Alike r p q
Alike (repeat b lower upper) p q =
    Alike b p.0 q.0 × (stop (low (nullable b) lower) upper (suc p.1) ≡ stop (low (nullable b) lower) upper (suc q.1))

-- the same further blocks may come
alike_blocks : {P : List Item → Type 0} (lower k n : ℕ) (upper : Upper) (y : List Item) → stop lower upper k ≡ stop lower upper n
    → Blocks P lower upper k y → Blocks P lower upper n y
alike_blocks {P} lower k n (upto m) y a b = subst (λ (i : ℕ). Blocks P lower (upto m) i y) a b
alike_blocks lower k n endless y a (blocks j lo up d) = blocks j (omega arith) tt d

-- what completes a reading from a place completes it from one alike
pub alike_rest : (s : ℕ) (e : Expr) (p q : Place e) (y : List Item) → Alike e p q → Rest s e p y → Rest s e q y
alike_rest s empty p q y a t = absurd a
alike_rest s (event c) p q y a t = t
alike_rest s (choice l r) (inl p) (inl q) y a t = alike_rest s l p q y a t
alike_rest s (choice l r) (inl p) (inr q) y a t = absurd a
alike_rest s (choice l r) (inr p) (inl q) y a t = absurd a
alike_rest s (choice l r) (inr p) (inr q) y a t = alike_rest (s + size l) r p q y a t
alike_rest s (sequence l r) (inl p) (inl q) y a (cat u v t d) = cat u v (alike_rest s l p q u a t) d
alike_rest s (sequence l r) (inl p) (inr q) y a t = absurd a
alike_rest s (sequence l r) (inr p) (inl q) y a t = absurd a
alike_rest s (sequence l r) (inr p) (inr q) y a t = alike_rest (s + size l) r p q y a t
alike_rest s (repeat b lower upper) p q y a (cat u v t (cat w z o d)) =
    cat u v (alike_rest s b p.0 q.0 u a.0 t) (cat w z o (alike_blocks (low (nullable b) lower) (suc p.1) (suc q.1) upper z a.1 d))

-- places with one node and the same counters are alike
same_alike : (s : ℕ) (e : Expr) (p q : Place e) → node_of s e p ≡ node_of s e q → place_counts e p ≡ place_counts e q → Alike e p q
same_alike s empty p q n c = absurd p
same_alike s (event d) p q n c = tt
same_alike s (choice l r) (inl p) (inl q) n c = same_alike s l p q n (append_cancel_right (place_counts l p) (place_counts l q) (zeros r) c)
same_alike s (choice l r) (inl p) (inr q) n c = absurd (left_not_right s l r p q n)
same_alike s (choice l r) (inr p) (inl q) n c = absurd (left_not_right s l r q p (sym n))
same_alike s (choice l r) (inr p) (inr q) n c = same_alike (s + size l) r p q n (append_cancel_left (zeros l) (place_counts r p) (place_counts r q) c)
same_alike s (sequence l r) (inl p) (inl q) n c = same_alike s l p q n (append_cancel_right (place_counts l p) (place_counts l q) (zeros r) c)
same_alike s (sequence l r) (inl p) (inr q) n c = absurd (left_not_right s l r p q n)
same_alike s (sequence l r) (inr p) (inl q) n c = absurd (left_not_right s l r q p (sym n))
same_alike s (sequence l r) (inr p) (inr q) n c = same_alike (s + size l) r p q n (append_cancel_left (zeros l) (place_counts r p) (place_counts r q) c)
same_alike s (repeat b lower upper) p q n c =
    let t = last_split (place_counts b p.0) (place_counts b q.0) _ _ c in (same_alike s b p.0 q.0 n t.0, t.1)

-- places with the same state are alike
pub same_state_alike : (e : Expr) (p q : Place e) → place_state e p ≡ place_state e q → Alike e p q
same_state_alike e p q h =
    let n : node_of 0 e p + 1 ≡ node_of 0 e q + 1 = ap (λ (z : State). z.node) h in
    same_alike 0 e p q (omega arith) (ap (λ (z : State). z.counts) h)

-- no place has the node of the start
state_not_start : (e : Expr) (p : Place e) (a : List Item) → Before 0 e p a → ¬ (state_of e [] ≡ state_of e a)
state_not_start e p a b h =
    let n : 0 ≡ node_of 0 e p + 1 = ap (λ (z : State). z.node) (h ∙ before_state e p a b) in
    omega arith

-- where the state is the same, the same items complete a reading
pub same_state_parted : (e : Expr) (a b y t : List Item) → ReadingParted e a y → ReadingParted e b t → state_of e a ≡ state_of e b → ReadingParted e b y
same_state_parted e a b y t (at_start v r) (at_start w q) h = at_start y r
same_state_parted e a b y t (at_start v r) (at_place p c w k d q) h = absurd (state_not_start e p b d h)
same_state_parted e a b y t (at_place p c v k d r) (at_start w q) h = absurd (state_not_start e p a d (sym h))
same_state_parted e a b y t (at_place p c v k d r) (at_place g f w l m q) h =
    at_place g b y l m (alike_rest 0 e p g y (same_state_alike e p g (sym (before_state e p a d) ∙ h ∙ before_state e g b m)) r)

-- ---- the state after further items

-- counts that stop alike do so with one block more
stop_next : (lower k n : ℕ) (upper : Upper) → stop lower upper k ≡ stop lower upper n → stop lower upper (suc k) ≡ stop lower upper (suc n)
stop_next lower k n (upto m) h = ap suc h
stop_next lower k n endless h = omega arith

-- so does one of two counts, by a test
stop_cond : (lower : ℕ) (upper : Upper) (b : Bool) (k n m j : ℕ) → stop lower upper k ≡ stop lower upper n → stop lower upper m ≡ stop lower upper j
    → stop lower upper (cond b k m) ≡ stop lower upper (cond b n j)
stop_cond lower upper true k n m j h g = h
stop_cond lower upper false k n m j h g = g

-- and after further items
begun_alike : (lower : ℕ) (upper : Upper) (i : ℕ) (t : List Item) (k n : ℕ) → stop lower upper k ≡ stop lower upper n
    → stop lower upper (begun i t k) ≡ stop lower upper (begun i t n)
begun_alike lower upper i [] k n h = h
begun_alike lower upper i (place j c ∷ t) k n h = begun_alike lower upper i t k n h
begun_alike lower upper i (opening q ∷ t) k n h =
    begun_alike lower upper i t _ _ (stop_cond lower upper (eqb q i) (suc k) (suc n) k n (stop_next lower k n upper h) h)
begun_alike lower upper i (closing q ∷ t) k n h =
    begun_alike lower upper i t _ _
    (stop_cond lower upper (eqb q i) _ _ k n (stop_cond lower upper (opens_next i t) k n 0 0 h refl) h)

-- what follows an event does not change what is next before it, and is counted on from there
event_opens : (i : ℕ) (x : List Item) (j c : ℕ) (t : List Item) → opens_next i (x ++ (place j c ∷ t)) ≡ opens_next i (x ++ (place j c ∷ []))
event_opens i [] j c t = refl
event_opens i (place n d ∷ x) j c t = refl
event_opens i (opening q ∷ x) j c t = refl
event_opens i (closing q ∷ x) j c t = refl

event_begun : (i : ℕ) (x : List Item) (j c : ℕ) (t : List Item) (k : ℕ) → begun i (x ++ (place j c ∷ t)) k ≡ begun i t (begun i (x ++ (place j c ∷ [])) k)
event_begun i [] j c t k = refl
event_begun i (place n d ∷ x) j c t k = event_begun i x j c t k
event_begun i (opening q ∷ x) j c t k = event_begun i x j c t (cond (eqb q i) (suc k) k)
event_begun i (closing q ∷ x) j c t k =
    ap (λ (b : Bool). begun i (x ++ (place j c ∷ t)) (cond (eqb q i) (cond b k 0) k)) (event_opens i x j c t)
    ∙ event_begun i x j c t (cond (eqb q i) (cond (opens_next i (x ++ (place j c ∷ []))) k 0) k)

-- counting goes on after items that end with an event, or after none
stopped_begun : (i : ℕ) (a t : List Item) (k : ℕ) → Stopped a → begun i (a ++ t) k ≡ begun i t (begun i a k)
stopped_begun i a t k nowhere = refl
stopped_begun i a t k (ended x j c) = ap (λ (y : List Item). begun i y k) (append_assoc x (place j c ∷ []) t) ∙ event_begun i x j c t k

-- counters are as many as the part's repeats
counters-length : (f g : ℕ → ℕ) (s : ℕ) (e : Expr) → length (counters f s e) ≡ length (counters g s e)
counters-length f g s empty = refl
counters-length f g s (event c) = refl
counters-length f g s (choice l r) = length_both (counters f s l) (counters g s l) (counters f (s + size l) r) (counters g (s + size l) r) (counters-length f g s l) (counters-length f g (s + size l) r)
counters-length f g s (sequence l r) = length_both (counters f s l) (counters g s l) (counters f (s + size l) r) (counters g (s + size l) r) (counters-length f g s l) (counters-length f g (s + size l) r)
counters-length f g s (repeat b lower upper) = length_both (counters f s b) (counters g s b) _ _ (counters-length f g s b) refl

-- counters that are equal stay so, where each does
counters_stay : (f g c d : ℕ → ℕ) → ((lower : ℕ) (upper : Upper) (i : ℕ) → stop lower upper (f i) ≡ stop lower upper (g i) → stop lower upper (c i) ≡ stop lower upper (d i))
    → (s : ℕ) (e : Expr) → counters f s e ≡ counters g s e → counters c s e ≡ counters d s e
counters_stay f g c d w s empty h = refl
counters_stay f g c d w s (event a) h = refl
counters_stay f g c d w s (choice l r) h =
    let t = append_split (counters f s l) (counters g s l) _ _ (counters-length f g s l) h in
    ap₂ ◌++◌ (counters_stay f g c d w s l t.0) (counters_stay f g c d w (s + size l) r t.1)
counters_stay f g c d w s (sequence l r) h =
    let t = append_split (counters f s l) (counters g s l) _ _ (counters-length f g s l) h in
    ap₂ ◌++◌ (counters_stay f g c d w s l t.0) (counters_stay f g c d w (s + size l) r t.1)
counters_stay f g c d w s (repeat b lower upper) h =
    let t = last_split (counters f s b) (counters g s b) _ _ h in
    ap₂ (λ (x : List ℕ) (n : ℕ). x ++ (n ∷ [])) (counters_stay f g c d w s b t.0) (w (low (nullable b) lower) upper (s + size b) t.1)

-- where the state is the same, it is the same after the same further items
pub same_state_after : (e : Expr) (a b t : List Item) → Stopped a → Stopped b → state_of e a ≡ state_of e b → state_of e (a ++ t) ≡ state_of e (b ++ t)
same_state_after e a b t p q h =
    let n = reached-append a t 0 ∙ ap (λ (z : State). reached t z.node) h ∙ sym (reached-append b t 0) in
    let c = counters_stay (λ i. begun i a 0) (λ i. begun i b 0) (λ i. begun i (a ++ t) 0) (λ i. begun i (b ++ t) 0) goes 0 e (ap (λ (z : State). z.counts) h) in
    λ j. record { node = n j; counts = c j }
  where
    goes : (lower : ℕ) (upper : Upper) (i : ℕ) → stop lower upper (begun i a 0) ≡ stop lower upper (begun i b 0)
        → stop lower upper (begun i (a ++ t) 0) ≡ stop lower upper (begun i (b ++ t) 0)
    goes lower upper i k =
        ap (stop lower upper) (stopped_begun i a t 0 p) ∙ begun_alike lower upper i t (begun i a 0) (begun i b 0) k ∙ ap (stop lower upper) (sym (stopped_begun i b t 0 q))

-- ---- runs

-- a reading that goes on from the run u, and items with the codes v that go on alike
record Along (e : Expr) (u v : List ℕ) (x : List Item) : Type 0 where
  here : List Item
  there : List Item
  after : List Item
  whole : x ≡ here ++ after
  here_parted : ReadingParted e here after
  there_parted : ReadingParted e there after
  here_codes : codes here ≡ u
  there_codes : codes there ≡ v
  state : state_of e here ≡ state_of e there

-- runs that reach one state go on alike
along : (e : Expr) → Bounded e → StronglyDeterministic e → (u v : List ℕ) (z : State) → Reaches e u z → Reaches e v z
    → (x : List Item) → Reading 0 e x → codes (up_to x (length u)) ≡ u → Along e u v x
along e h d u v z p (reaches t k g) x r c =
    let a = reading_parted e h x (length u) r (run_within x u c) in
    let b = reading_parted e h t (length v) k (run_within t v g) in
    let front = up_to x (length u) in
    let other = up_to t (length v) in
    let same = one_state e d u (state_of e front) (state_of e other) (reaches x r c) p in
    record {
      here = front;
      there = other;
      after = a.0;
      whole = a.2;
      here_parted = a.1;
      there_parted = same_state_parted e front other a.0 b.0 a.1 b.1 same;
      here_codes = c;
      there_codes = g;
      state = same;
    }

-- codes of items, one list after the other
codes_join : (a y : List Item) (u w : List ℕ) → codes a ≡ u → codes y ≡ w → codes (a ++ y) ≡ u ++ w
codes_join a y u w c d = codes-append a y ∙ ap₂ ◌++◌ c d

pub codes_rest : (a y : List Item) (u w : List ℕ) → codes a ≡ u → codes (a ++ y) ≡ u ++ w → codes y ≡ w
codes_rest a y u w c d = append_cancel_left u (codes y) w (ap (λ (t : List ℕ). t ++ codes y) (sym c) ∙ sym (codes-append a y) ∙ d)

-- the second run's word
along_word : (e : Expr) → Bounded e → (u v w : List ℕ) (x : List Item) → Along e u v x → codes x ≡ u ++ w → Word e (v ++ w)
along_word e h u v w x g c =
    let rest = codes_rest g.here g.after u w g.here_codes (ap codes (sym g.whole) ∙ c) in
    (word_iff_reading 0 e h (v ++ w)).1
    (g.there ++ g.after, parted_reading e g.there g.after g.there_parted, codes_join g.there g.after v w g.there_codes rest)

-- words of runs that reach one state
word_along : (e : Expr) → Bounded e → StronglyDeterministic e → (u v : List ℕ) (z : State) → Reaches e u z → Reaches e v z
    → (w : List ℕ) → Word e (u ++ w) → Word e (v ++ w)
word_along e h d u v z p q w k =
    let t = (word_iff_reading 0 e h (u ++ w)).0 k in
    let x = t.0 in
    let front = codes-up_to x (length u) ∙ ap (take (length u)) t.2 ∙ take-append_seam u w in
    along_word e h u v w x (along e h d u v z p q x t.1 front) t.2

-- beginnings of words
begins_along : (e : Expr) → Bounded e → StronglyDeterministic e → (u v : List ℕ) (z : State) → Reaches e u z → Reaches e v z
    → (w : List ℕ) → Begins e (u ++ w) → Begins e (v ++ w)
begins_along e h d u v z p q w b =
    let t = b.0 in
    (t, subst⁻¹ (Word e) (append_assoc v w t) (word_along e h d u v z p q (w ++ t) (subst (Word e) (append_assoc u w t) b.1)))

-- the items up to the end of a longer run
up_along : (e : Expr) (a y : List Item) (u w : List ℕ) → ReadingParted e a y → codes a ≡ u → up_to (a ++ y) (length (u ++ w)) ≡ a ++ up_to y (length w)
up_along e a y u w t c =
    let long = length-append u w in
    let same = ap {B = ℕ} length c in
    stopped_up_to a (parted_stopped e a y t) y (length w) (length (u ++ w)) (omega arith)

-- the second run's state
along_reaches : (e : Expr) (u v w : List ℕ) (x : List Item) → Along e u v x → codes (up_to x (length (u ++ w))) ≡ u ++ w
    → Reaches e (v ++ w) (state_of e (up_to x (length (u ++ w))))
along_reaches e u v w x g c =
    let t = up_to g.after (length w) in
    let up_here = ap (λ (y : List Item). up_to y (length (u ++ w))) g.whole ∙ up_along e g.here g.after u w g.here_parted g.here_codes in
    let up_there = up_along e g.there g.after v w g.there_parted g.there_codes in
    let rest = codes_rest g.here t u w g.here_codes (ap codes (sym up_here) ∙ c) in
    let stopped_here = parted_stopped e g.here g.after g.here_parted in
    let stopped_there = parted_stopped e g.there g.after g.there_parted in
    subst⁻¹ (Reaches e (v ++ w)) (ap (state_of e) up_here ∙ same_state_after e g.here g.there t stopped_here stopped_there g.state)
    (reaches_items e (v ++ w) (g.there ++ g.after) (g.there ++ t) (parted_reading e g.there g.after g.there_parted) up_there
    (codes_join g.there t v w g.there_codes rest))

-- states reached
reaches_along : (e : Expr) → Bounded e → StronglyDeterministic e → (u v : List ℕ) (z : State) → Reaches e u z → Reaches e v z
    → (w : List ℕ) (y : State) → Reaches e (u ++ w) y → Reaches e (v ++ w) y
reaches_along e h d u v z p q w y (reaches x r c) =
    let n = length u in
    let long = length-append u w in
    let shorter = take-take n (length (u ++ w)) (codes x) (omega arith) in
    let front = codes-up_to x n ∙ sym shorter ∙ ap (take n) (sym (codes-up_to x (length (u ++ w))) ∙ c) ∙ take-append_seam u w in
    along_reaches e u v w x (along e h d u v z p q x r front) c

-- where the procedure is strongly deterministic, two runs that reach one state have the same continuations: to beginnings of words,
-- to words, and to the states reached
pub same_state_same_continuations : (e : Expr) → Bounded e → StronglyDeterministic e → (u v : List ℕ) (z : State) → Reaches e u z → Reaches e v z
    → (w : List ℕ)
    → (Begins e (u ++ w) ↔ Begins e (v ++ w))
    × (Word e (u ++ w) ↔ Word e (v ++ w))
    × ((y : State) → Reaches e (u ++ w) y ↔ Reaches e (v ++ w) y)
same_state_same_continuations e h d u v z p q w = (
  (begins_along e h d u v z p q w, begins_along e h d v u z q p w),
  (word_along e h d u v z p q w, word_along e h d v u z q p w),
  λ y. (reaches_along e h d u v z p q w y, reaches_along e h d v u z q p w y),
)

-- ---- where the procedure is not strongly deterministic

-- (a+e) a
abbrev pub maybe_twice : Expr
maybe_twice = sequence (choice (event 0) empty) (event 0)

-- its words have at most two events
maybe_twice_short : (w : List ℕ) → Word maybe_twice w → length w ≤ 2
maybe_twice_short w (cat u v (left one) one) = omega arith
maybe_twice_short w (cat u v (right nil) one) = omega arith

-- the runs a and aa reach one state, but only the first goes on with a
pub one_state_two_continuations : (z : State)
    × Reaches maybe_twice (0 ∷ []) z
    × Reaches maybe_twice (0 ∷ 0 ∷ []) z
    × Begins maybe_twice (0 ∷ 0 ∷ [])
    × ¬ Begins maybe_twice (0 ∷ 0 ∷ 0 ∷ [])
one_state_two_continuations = (
  record { node = 4; counts = [] },
  reaches (place 3 0 ∷ []) (cat [] (place 3 0 ∷ []) (right nil) one) refl,
  reaches (place 0 0 ∷ place 3 0 ∷ []) (cat (place 0 0 ∷ []) (place 3 0 ∷ []) (left one) one) refl,
  ([], cat (0 ∷ []) (0 ∷ []) (left one) one),
  λ b. let short = maybe_twice_short (0 ∷ 0 ∷ 0 ∷ b.0) b.1 in omega arith,
)
