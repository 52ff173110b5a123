-- A conflict makes two readings of the whole that agree in codes up to an event and differ in the items up to it:
-- a strongly deterministic expression has no conflict.
use mathlib.Core.Path.{◌≡◌, sym, ap, ◌∙◌, subst, subst⁻¹}
use mathlib.Core.Logic.{◌≢◌, ◌↔◌, inl, inr}
use mathlib.Core.List.{List, [], ◌∷◌, ◌++◌, append_assoc, append-nil, append_cancel_left}
use Prim.Native.Nat.{ℕ, suc, ◌+◌, ◌-◌, ◌≤◌, ◌<◌, max}
use native.Mathlib.Omega.{arith}
use lib.ListN.{length, take, length-append}
use Rattle.meaning.specs.Expr.{Expr, empty, event, choice, sequence, repeat, size, Upper, Within, Part, Bounded}
use Rattle.meaning.specs.Lists.{left, right, Cat, cat, Power, more, Times, times}
use Rattle.meaning.specs.Normal.{nullable, low}
use Rattle.meaning.specs.Reading.{Item, place, opening, closing, codes, up_to, Block, block, Reading}
use Rattle.meaning.specs.Strong.{StronglyDeterministic}
use Rattle.meaning.specs.Sets.{First, After}
use Rattle.meaning.specs.Conflict.{Conflict, ConflictAt}
use Rattle.meaning.specs.Theory.Places.{node_of, opens}
use Rattle.meaning.proofs.General.Facts.{take_through, within_le, within_max, low_within, last_same, some_power}
use Rattle.meaning.proofs.Expressions.Items.{codes-append, codes_event, up_to_event}
use Rattle.meaning.proofs.Places.Marks.{Marks, marks_codes, codes_before_marks, marks_apart, node_from, node_below, opens_marks}
use Rattle.meaning.proofs.Places.Steps.{nothing, first, begun_reading, start_sound}
use Rattle.meaning.proofs.Places.Before.{some_reading, some_rest}
use Rattle.meaning.proofs.Determinism.FirstAfter.{first_start}
use Rattle.meaning.proofs.Determinism.Fork.{Fork, after_forks}
use Rattle.meaning.proofs.Determinism.Unique.{free_iff_no_conflict, free_strong}

-- one of the lists, with an event of the code c after the codes w
record EventAfter (P : List Item → Type 0) (w : List ℕ) (c : ℕ) : Type 0 where
  before : List Item
  node : ℕ
  after : List Item
  whole : P (before ++ (place node c ∷ after))
  coded : codes before ≡ w

-- all of its items
abbrev full : {P : List Item → Type 0} {w : List ℕ} {c : ℕ} → EventAfter P w c → List Item
full {c} x = x.before ++ (place x.node c ∷ x.after)

-- those up to and including the event
abbrev items : {P : List Item → Type 0} {w : List ℕ} {c : ℕ} → EventAfter P w c → List Item
items {c} x = x.before ++ (place x.node c ∷ [])

-- two of the lists that agree in codes up to an event and differ in the items up to it
record Diverging (P : List Item → Type 0) : Type 0 where
  run : List ℕ
  code : ℕ
  one : EventAfter P run code
  two : EventAfter P run code
  apart : items one ≢ items two

-- the same list, its codes written otherwise
abbrev recoded : {P : List Item → Type 0} {v : List ℕ} {c : ℕ} (w : List ℕ) → v ≡ w → EventAfter P v c → EventAfter P w c
recoded w p x = record { before = x.before; node = x.node; after = x.after; whole = x.whole; coded = x.coded ∙ p }

-- lists of P that hold an event stand inside lists of Q, after z
record StandsInside (P Q : List Item → Type 0) (z : List Item) : Type 0 where
  behind : List Item
  keeps : (x : List Item) → 1 ≤ length (codes x) → P x → Q (z ++ (x ++ behind))

-- such a list, grouped around an event of x
regroup : (z u : List Item) (a : Item) (v y : List Item) → z ++ ((u ++ (a ∷ v)) ++ y) ≡ (z ++ u) ++ (a ∷ (v ++ y))
regroup z u a v y = simp append_assoc

-- what lists of P reach, lists of Q reach
abbrev reached_inside : {P Q : List Item → Type 0} {z : List Item} {w : List ℕ} {c : ℕ} → StandsInside P Q z → EventAfter P w c → EventAfter Q (codes z ++ w) c
reached_inside {Q} {z} {c} k x = record {
  before = z ++ x.before;
  node = x.node;
  after = x.after ++ k.behind;
  whole = subst Q (regroup z x.before (place x.node c) x.after k.behind) (k.keeps _ (codes_event x.before x.node c x.after) x.whole);
  coded = codes-append z x.before ∙ ap {B = List ℕ} (λ w. codes z ++ w) x.coded;
}

-- lists of Q diverge if lists of P do
diverging_inside : {P Q : List Item → Type 0} {z : List Item} → StandsInside P Q z → Diverging P → Diverging Q
diverging_inside {z} k d = record {
  run = codes z ++ d.run;
  code = d.code;
  one = reached_inside k d.one;
  two = reached_inside k d.two;
  apart = λ p. d.apart (append_cancel_left z _ _ (sym (append_assoc z d.one.before _) ∙ p ∙ append_assoc z d.two.before _));
}

-- a side of a choice
inside_either : {P Q : List Item → Type 0} → ((x : List Item) → P x → Q x) → StandsInside P Q []
inside_either {P} f = record { behind = []; keeps = λ x e p. f _ (subst⁻¹ P (append-nil x) p) }

-- the left of a sequence
inside_first : {P Q : List Item → Type 0} (y : List Item) → Q y → StandsInside P (Cat P Q) []
inside_first y q = record { behind = y; keeps = λ x e p. cat x y p q }

-- the right of a sequence
inside_second : {P Q : List Item → Type 0} (z : List Item) → P z → StandsInside Q (Cat P Q) z
inside_second {Q} z p = record { behind = []; keeps = λ x e q. cat z (x ++ []) p (subst⁻¹ Q (append-nil x) q) }

-- the first of some blocks
inside_block : {P : List Item → Type 0} (r j : ℕ) (y : List Item) → Power (Block P r) j y → StandsInside P (Power (Block P r) (suc j)) (opening r ∷ [])
inside_block {P} r j y q = record {
  behind = closing r ∷ y;
  keeps = λ x e p. subst (λ z. Power (Block P r) (suc j) (opening r ∷ z)) (append_assoc x _ y) (more j _ y (block x e p) q);
}

-- a later one
inside_later : {P Q : List Item → Type 0} {z : List Item} (j : ℕ) (u : List Item) → Q u → StandsInside P (Power Q j) z → StandsInside P (Power Q (suc j)) (u ++ z)
inside_later {Q} {z} j u q k = record {
  behind = k.behind;
  keeps = λ x e p. subst (Power Q (suc j)) (sym (append_assoc u z _)) (more j u _ q (k.keeps x e p));
}

-- k blocks at least, and as many as the bounds ask for
inside_times : {P Q : List Item → Type 0} {z : List Item} (j k lower : ℕ) (upper : Upper) → j ≡ k + (lower - k) → Within k upper → Within lower upper
    → StandsInside P (Power Q j) z → StandsInside P (Times Q lower upper) z
inside_times j k lower upper p h g i = record {
  behind = i.behind;
  keeps = λ x e q. times j (omega arith) (within_le j (max k lower) upper (omega arith) (within_max k lower upper h g)) (i.keeps x e q);
}

-- a repeat's first block
inside_repeat : {P : List Item → Type 0} (r lower : ℕ) (upper : Upper) (u : List Item) → Within 1 upper → Within lower upper → Block P r u
    → StandsInside P (Times (Block P r) lower upper) (opening r ∷ [])
inside_repeat {P} r lower upper u h g b =
    let y = some_power {P = Block P r} u b (lower - 1) in
    inside_times (suc (lower - 1)) 1 lower upper (omega arith) h g (inside_block r (lower - 1) y.0 y.1)

-- its second, after the block u
inside_second_block : {P : List Item → Type 0} (r lower : ℕ) (upper : Upper) (u : List Item) → Within 2 upper → Within lower upper → Block P r u
    → StandsInside P (Times (Block P r) lower upper) (u ++ (opening r ∷ []))
inside_second_block {P} r lower upper u h g b =
    let y = some_power {P = Block P r} u b (lower - 2) in
    inside_times (suc (suc (lower - 2))) 2 lower upper (omega arith) h g (inside_later (suc (lower - 2)) u b (inside_block r (lower - 2) y.0 y.1))

-- a repeat diverges if its body does
diverging_repeat : {P : List Item → Type 0} (r lower : ℕ) (upper : Upper) → Within 1 upper → Within lower upper → Diverging P → Diverging (Times (Block P r) lower upper)
diverging_repeat r lower upper h g d =
    let x = d.one in
    diverging_inside (inside_repeat r lower upper _ h g (block _ (codes_event x.before x.node d.code x.after) x.whole)) d

-- two events at different nodes are apart
nodes_apart : {P : List Item → Type 0} {w : List ℕ} {c : ℕ} (x y : EventAfter P w c) → x.node ≢ y.node → items x ≢ items y
nodes_apart x y n p = let q = last_same x.before y.before _ _ p in n (cc)

-- a reading that begins with a code of first
record BeginsWith (s : ℕ) (e : Expr) (c : ℕ) : Type 0 where
  reached : EventAfter (Reading s e) [] c
  from : s ≤ reached.node
  below : reached.node < s + size e

-- every code of first has one
first_begins : (s : ℕ) (e : Expr) → Bounded e → (c : ℕ) → First e c → BeginsWith s e c
first_begins s e h c f =
    let t = first_start e h c f in
    let q = t.0 in
    let y = some_rest s e h q (start_sound e h q t.1) in
    record {
      reached = record {
        before = opens s e q;
        node = node_of s e q;
        after = y.0;
        whole = subst (λ d. Reading s e (opens s e q ++ (place (node_of s e q) d ∷ y.0))) t.2 (begun_reading s e h _ (first q y.0 t.1 y.1));
        coded = marks_codes (s + size e) (opens s e q) (opens_marks (s + size e) s e (omega arith) q);
      };
      from = node_from s e q;
      below = node_below s e q;
    }

-- the event with which a fork goes on
abbrev fork_goes : {s : ℕ} {e : Expr} {c : ℕ} (k : Fork s e c) → EventAfter (Reading s e) (codes k.here) c
fork_goes {s} {e} {c} k = record {
  before = k.here ++ k.marks;
  node = k.node;
  after = k.after;
  whole = subst⁻¹ (Reading s e) (append_assoc k.here k.marks (place k.node c ∷ k.after)) k.goes;
  coded = codes_before_marks (s + size e) k.here k.marks k.marks_marks;
}

-- kind 1: a choice whose sides share a first code
choice_diverges : (s : ℕ) (l r : Expr) → Bounded l → Bounded r → (c : ℕ) → First l c → First r c → Diverging (Reading s (choice l r))
choice_diverges s l r h g c f d =
    let x = first_begins s l h c f in
    let y = first_begins (s + size l) r g c d in
    let one = reached_inside {Q = Reading s (choice l r)} (inside_either (λ x. left)) x.reached in
    let two = reached_inside {Q = Reading s (choice l r)} (inside_either (λ x. right)) y.reached in
    let a = x.below in
    let b = y.from in
    record { run = []; code = c; one = one; two = two; apart = nodes_apart one two (omega arith) }

-- kinds 2 and 3: a sequence whose left may stop after the codes of z or go on with c, where c is a first code of the right
sequence_diverges : (s : ℕ) (l r : Expr) → Bounded r → (c : ℕ) (z : List Item) → Reading s l z → (x : EventAfter (Reading s l) (codes z) c) → x.node < s + size l → First r c
    → Diverging (Reading s (sequence l r))
sequence_diverges s l r g c z p x a f =
    let t = some_reading (s + size l) r g in
    let y = first_begins (s + size l) r g c f in
    let one = reached_inside {Q = Reading s (sequence l r)} (inside_first t.0 t.1) x in
    let two = recoded (codes z) (append-nil (codes z)) (reached_inside {Q = Reading s (sequence l r)} (inside_second z p) y.reached) in
    let b = y.from in
    record { run = codes z; code = c; one = one; two = two; apart = nodes_apart one two (omega arith) }

-- a second block begun, and marks within the first, are apart
blocks_apart : (r i j c : ℕ) (u x m v : List Item) → Marks r x → Marks r m
    → ¬ ((((opening r ∷ ((u ++ x) ++ (closing r ∷ []))) ++ (opening r ∷ [])) ++ v) ++ (place j c ∷ []) ≡ (opening r ∷ (u ++ m)) ++ (place i c ∷ []))
blocks_apart r i j c u x m v h g p =
    marks_apart r i c x m _ [] h g (append_cancel_left (opening r ∷ u) _ _ (sym (later u x v) ∙ p ∙ append_assoc (opening r ∷ u) m _))
  where
    later : (u x v : List Item) → (((opening r ∷ ((u ++ x) ++ (closing r ∷ []))) ++ (opening r ∷ [])) ++ v) ++ (place j c ∷ []) ≡ (opening r ∷ u) ++ (x ++ (closing r ∷ opening r ∷ (v ++ (place j c ∷ []))))
    later u x v = simp append_assoc

-- a block and an opening have the codes of what the block holds
block_codes : (r : ℕ) (x : List Item) → codes ((opening r ∷ (x ++ (closing r ∷ []))) ++ (opening r ∷ [])) ++ [] ≡ codes x
block_codes r x = simp (codes-append, append-nil)

-- kind 4: a repeat that may begin a second block with c or go on with c in the first
repeat_diverges : (s : ℕ) (b : Expr) (lower : ℕ) (upper : Upper) → Bounded b → Within 1 upper → Within 2 upper → Within lower upper → (c : ℕ) → After b c → First b c
    → Diverging (Times (Block (Reading s b) (s + size b)) lower upper)
repeat_diverges s b lower upper h v1 v2 vl c a f =
    let r = s + size b in
    let Q = Times (Block (Reading s b) r) lower upper in
    let k = after_forks s b h c a in
    let y = first_begins s b h c f in
    let x = k.here ++ k.closed in
    let u = opening r ∷ (x ++ (closing r ∷ [])) in
    let same = codes_before_marks r k.here k.closed k.closed_marks in
    let whole : Block (Reading s b) r u = block x (subst⁻¹ (λ w. 1 ≤ length w) same k.begun) k.stops in
    let one = recoded (codes k.here) (block_codes r x ∙ same) (reached_inside {Q = Q} (inside_second_block r lower upper u v2 vl whole) y.reached) in
    let two = reached_inside {Q = Q} (inside_repeat r lower upper u v1 vl whole) (fork_goes k) in
    record {
      run = codes k.here;
      code = c;
      one = one;
      two = two;
      apart = blocks_apart r k.node y.reached.node c k.here k.closed k.marks y.reached.before k.closed_marks k.marks_marks;
    }

-- a part whose own node has a conflict diverges
node_diverges : (s : ℕ) (e : Expr) → Bounded e → (k c : ℕ) → Conflict e k c → Diverging (Reading s e)
node_diverges s empty h k c f = absurd f
node_diverges s (event d) h k c f = absurd f
node_diverges s (choice l r) h k c f = choice_diverges s l r h.0 h.1 c f.1 f.2
node_diverges s (sequence l r) h k c (inl f) =
    let x = first_begins s l h.0 c f.2 in
    sequence_diverges s l r h.1 c [] (begun_reading s l h.0 [] (nothing f.1)) x.reached x.below f.3
node_diverges s (sequence l r) h k c (inr f) =
    let x = after_forks s l h.0 c f.1 in
    let same = codes_before_marks (s + size l) x.here x.closed x.closed_marks in
    sequence_diverges s l r h.1 c (x.here ++ x.closed) x.stops (recoded (codes (x.here ++ x.closed)) (sym same) (fork_goes x)) x.below f.2
node_diverges s (repeat b lower upper) h k c f =
    repeat_diverges s b (low (nullable b) lower) upper h.0 h.2 f.1 (low_within (nullable b) lower upper h.1) c f.2 f.3

-- the same of a part that is the whole
whole_diverges : (s : ℕ) (e : Expr) → Bounded e → (k c : ℕ) (p : Expr) → p ≡ e → Conflict p k c → Diverging (Reading s e)
whole_diverges s e h k c p w f = node_diverges s e h k c (subst (λ q. Conflict q k c) w f)

-- a part with a conflict diverges
conflict_diverges : (s : ℕ) (e : Expr) → Bounded e → (i k c : ℕ) (p : Expr) → Part s e i p → Conflict p k c → Diverging (Reading s e)
conflict_diverges s empty h i k c p w f = whole_diverges s empty h k c p w.1 f
conflict_diverges s (event d) h i k c p w f = whole_diverges s (event d) h k c p w.1 f
conflict_diverges s (choice l r) h i k c p (inl w) f =
    diverging_inside (inside_either (λ x. left)) (conflict_diverges s l h.0 i k c p w f)
conflict_diverges s (choice l r) h i k c p (inr (inl w)) f =
    diverging_inside (inside_either (λ x. right)) (conflict_diverges (s + size l) r h.1 i k c p w f)
conflict_diverges s (choice l r) h i k c p (inr (inr w)) f = whole_diverges s (choice l r) h k c p w.1 f
conflict_diverges s (sequence l r) h i k c p (inl w) f =
    let y = some_reading (s + size l) r h.1 in
    diverging_inside (inside_first y.0 y.1) (conflict_diverges s l h.0 i k c p w f)
conflict_diverges s (sequence l r) h i k c p (inr (inl w)) f =
    let z = some_reading s l h.0 in
    diverging_inside (inside_second z.0 z.1) (conflict_diverges (s + size l) r h.1 i k c p w f)
conflict_diverges s (sequence l r) h i k c p (inr (inr w)) f = whole_diverges s (sequence l r) h k c p w.1 f
conflict_diverges s (repeat b lower upper) h i k c p (inl w) f =
    diverging_repeat (s + size b) (low (nullable b) lower) upper h.2 (low_within (nullable b) lower upper h.1) (conflict_diverges s b h.0 i k c p w f)
conflict_diverges s (repeat b lower upper) h i k c p (inr w) f = whole_diverges s (repeat b lower upper) h k c p w.1 f

-- a list up to the event reached: its items
up_to-reached : {P : List Item → Type 0} {w : List ℕ} {c : ℕ} (x : EventAfter P w c) → up_to (full x) (suc (length w)) ≡ items x
up_to-reached {c} x =
    subst (λ w. up_to (full x) (suc (length w)) ≡ items x) x.coded (up_to_event x.before x.node c x.after)

-- all of its codes
codes-reached : {P : List Item → Type 0} {w : List ℕ} {c : ℕ} (x : EventAfter P w c) → codes (full x) ≡ w ++ (c ∷ codes x.after)
codes-reached {c} x = codes-append x.before _ ∙ ap {B = List ℕ} (λ w. w ++ (c ∷ codes x.after)) x.coded

-- its codes up to the event
take-reached : {P : List Item → Type 0} {w : List ℕ} {c : ℕ} (x : EventAfter P w c)
    → take (suc (length w)) (codes (full x)) ≡ w ++ (c ∷ [])
take-reached {w} {c} x = ap (take (suc (length w))) (codes-reached x) ∙ take_through w c (codes x.after)

-- it is long enough
length-reached : {P : List Item → Type 0} {w : List ℕ} {c : ℕ} (x : EventAfter P w c) → suc (length w) ≤ length (codes (full x))
length-reached {w} {c} x = rw (codes-reached x, length-append w (c ∷ codes x.after)) (omega arith)

-- what diverges is not strongly deterministic
diverging_not_strong : (e : Expr) → Diverging (Reading 0 e) → ¬ StronglyDeterministic e
unfolding StronglyDeterministic
diverging_not_strong e d h =
    let x = d.one in
    let y = d.two in
    let same = h (suc (length d.run)) _ _ x.whole y.whole (length-reached x) (length-reached y) (take-reached x ∙ sym (take-reached y)) in
    d.apart (sym (up_to-reached x) ∙ same ∙ up_to-reached y)

-- a strongly deterministic expression has no conflict
pub strong_no_conflict : (e : Expr) → Bounded e → StronglyDeterministic e → (i k c : ℕ) → ¬ ConflictAt 0 e i k c
strong_no_conflict e h s i k c f = diverging_not_strong e (conflict_diverges 0 e h i k c f.0 f.1 f.2) s

-- strongly deterministic exactly if no node has a conflict
pub strong_iff_no_conflict : (e : Expr) → Bounded e → StronglyDeterministic e ↔ ((i k c : ℕ) → ¬ ConflictAt 0 e i k c)
strong_iff_no_conflict e h = (strong_no_conflict e h, λ n. free_strong e h ((free_iff_no_conflict 0 e).1 n))
