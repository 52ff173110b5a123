-- After, as worked out, is after as worded, for a part without a conflict, and so for every part below the lowest conflict;
-- with a conflict the two differ.
use mathlib.Core.Path.{◌≡◌, sym, ap, ◌∙◌, subst, subst⁻¹}
use mathlib.Core.Logic.{◌↔◌, inl, inr}
use mathlib.Core.Bool.{false≢true}
use mathlib.Core.List.{List, [], ◌∷◌, ◌++◌, nil≢cons, head-eq_of_cons-eq, tail-eq_of_cons-eq}
use Prim.Native.Nat.{ℕ, ◌+◌, ◌≤◌, ◌<◌}
use native.Mathlib.Omega.{arith}
use lib.ListN.{length}
use Rattle.meaning.specs.Expr.{Expr, event, choice, sequence, size, Part, Bounded}
use Rattle.meaning.specs.Lists.{one, left, right, cat}
use Rattle.meaning.specs.Word.{Word}
use Rattle.meaning.specs.Reading.{Item, place, codes}
use Rattle.meaning.specs.Sets.{First, After, FirstWorded, AfterWorded}
use Rattle.meaning.specs.Conflict.{ConflictAt, LowestConflict}
use Rattle.meaning.specs.Theory.Places.{Place, code_at, item_of, Sound, CanStart, CanEnd, opens, closes, Step, Rest}
use Rattle.meaning.specs.Theory.Conflicts.{Free}
use Rattle.meaning.proofs.Expressions.Items.{codes-append}
use Rattle.meaning.proofs.Places.Marks.{Marks, marks_codes, codes_before_marks, codes_behind_marks, opens_marks, closes_marks, step_marks}
use Rattle.meaning.proofs.Expressions.Parts.{Inner, part_of_part, part_bounded}
use Rattle.meaning.proofs.Expressions.WordReading.{word_iff_reading}
use Rattle.meaning.proofs.Places.Steps.{Begun, nothing, first, reading_begun, Goes, ends, steps, rest_goes, start_sound, step_sound}
use Rattle.meaning.proofs.Determinism.FirstAfter.{end_step_after}
use Rattle.meaning.proofs.Determinism.Unique.{free_iff_no_conflict, start_unique, step_unique}
use Rattle.meaning.proofs.Determinism.Fork.{after_forks}
use Rattle.meaning.proofs.Expressions.FirstWorded.{first_iff_worded}

-- the codes of items, marks, an event and items
goes_codes : (n : ℕ) (u m : List Item) → Marks n m → (i c : ℕ) (x : List Item) → codes (u ++ (m ++ (place i c ∷ x))) ≡ codes u ++ (c ∷ codes x)
goes_codes n u m h i c x = codes-append u _ ∙ ap {B = List ℕ} (λ w. codes u ++ w) (codes_behind_marks n m (place i c ∷ x) h)

-- a code of after, as worked out, is one as worded
after_worded : (e : Expr) → Bounded e → (c : ℕ) → After e c → AfterWorded e c
unfolding AfterWorded
after_worded e h c a =
    let k = after_forks 0 e h c a in (
      codes k.here,
      codes k.after,
      k.begun,
      (word_iff_reading 0 e h _).1 (_, k.stops, codes_before_marks (0 + size e) k.here k.closed k.closed_marks),
      (word_iff_reading 0 e h _).1 (_, k.goes, goes_codes (0 + size e) k.here k.marks k.marks_marks k.node c k.after),
    )

-- the next event, at a place that R allows: its code is d, and what completes the reading from there has the codes v
record NextEvent (s : ℕ) (e : Expr) (R : Place e → Type 0) (d : ℕ) (v : List ℕ) : Type 0 where
  reached : Place e
  way : R reached
  code : code_at e reached ≡ d
  behind : List Item
  rest : Rest s e reached behind
  coded : codes behind ≡ v

-- marks, an allowed event and what completes it are such a next event
next : {s : ℕ} {e : Expr} {R : Place e → Type 0} {d : ℕ} {v : List ℕ} (n : ℕ) (q : Place e) (m y : List Item) → Marks n m → R q → Rest s e q y
    → codes (m ++ (item_of s e q ∷ y)) ≡ d ∷ v → NextEvent s e R d v
next {s} {e} n q m y h w r p =
    let g = sym (codes_behind_marks n m (item_of s e q ∷ y) h) ∙ p in
    record { reached = q; way = w; code = head-eq_of_cons-eq g; behind = y; rest = r; coded = tail-eq_of_cons-eq g }

-- a reading with codes has a first event
begun_next : {s : ℕ} {e : Expr} {d : ℕ} {v : List ℕ} (x : List Item) → Begun s e x → codes x ≡ d ∷ v → NextEvent s e (CanStart e) d v
begun_next _ (nothing n) p = absurd (nil≢cons p)
begun_next {s} {e} _ (first q y c r) p = next (s + size e) q (opens s e q) y (opens_marks (s + size e) s e (omega arith) q) c r p

-- what completes a reading ends if it has no codes
goes_ends : {s : ℕ} {e : Expr} {p : Place e} (x : List Item) → Goes s e p x → codes x ≡ [] → CanEnd e p
goes_ends _ (ends c) a = c
goes_ends {s} {e} _ (steps q m y t r) a =
    absurd (nil≢cons (sym a ∙ codes_behind_marks (s + size e) m (item_of s e q ∷ y) (step_marks (s + size e) s e (omega arith) _ q m t)))

-- some step leads from p to q
abbrev StepTo : (s : ℕ) (e : Expr) → Place e → Place e → Type 0
StepTo s e p q = (m : List Item) × Step s e p q m

-- and goes on with a next event if it has some
goes_next : {s : ℕ} {e : Expr} {p : Place e} {d : ℕ} {v : List ℕ} (x : List Item) → Goes s e p x → codes x ≡ d ∷ v → NextEvent s e (StepTo s e p) d v
goes_next {s} {e} {p} _ (ends c) a = absurd (nil≢cons (sym (marks_codes (s + size e) (closes s e p) (closes_marks (s + size e) s e (omega arith) p)) ∙ a))
goes_next {s} {e} {p} _ (steps q m y t r) a = next (s + size e) q m y (step_marks (s + size e) s e (omega arith) p q m t) (m, t) r a

-- two ways to complete a reading from a place, the second going on with c where the first ends: c is in after
rests_after : (s : ℕ) (e : Expr) → Bounded e → Free e → (v w : List ℕ) (c : ℕ) (p : Place e) → Sound e p → (x y : List Item) → Rest s e p x → Rest s e p y
    → codes x ≡ v → codes y ≡ v ++ (c ∷ w) → After e c
rests_after s e h f [] w c p k x y r t a b =
    let n = goes_next y (rest_goes s e h p y t) b in
    subst (After e) n.code (end_step_after s e h p n.reached n.way.0 k (goes_ends x (rest_goes s e h p x r) a) n.way.1)
rests_after s e h f (d ∷ v) w c p k x y r t a b =
    let n = goes_next x (rest_goes s e h p x r) a in
    let o = goes_next y (rest_goes s e h p y t) b in
    let same = (step_unique s e h f p k n.reached o.reached _ _ n.way.1 o.way.1 (n.code ∙ sym o.code)).0 in
    let sound = step_sound s e h p n.reached _ k n.way.1 in
    let other = subst⁻¹ (λ q. Rest s e q o.behind) same o.rest in
    rests_after s e h f v w c n.reached sound n.behind o.behind n.rest other n.coded o.coded

-- a code of after as worded is one as worked out, where there is no conflict: both words follow the same places
worded_after : (e : Expr) → Bounded e → Free e → (c : ℕ) (v w : List ℕ) → 1 ≤ length v → Word e v → Word e (v ++ (c ∷ w)) → After e c
worded_after e h f c [] w l a b = absurd (omega arith)
worded_after e h f c (d ∷ v) w l a b =
    let x = (word_iff_reading 0 e h (d ∷ v)).0 a in
    let y = (word_iff_reading 0 e h (d ∷ (v ++ (c ∷ w)))).0 b in
    let n = begun_next x.0 (reading_begun 0 e h x.0 x.1) x.2 in
    let o = begun_next y.0 (reading_begun 0 e h y.0 y.1) y.2 in
    let same = start_unique e h f n.reached o.reached n.way o.way (n.code ∙ sym o.code) in
    let sound = start_sound e h n.reached n.way in
    let other = subst⁻¹ (λ q. Rest 0 e q o.behind) same o.rest in
    rests_after 0 e h f v w c n.reached sound n.behind o.behind n.rest other n.coded o.coded

-- after as worked out is after as worded, where there is no conflict
pub after_iff_worded : (e : Expr) → Bounded e → Free e → (c : ℕ) → After e c ↔ AfterWorded e c
unfolding AfterWorded
after_iff_worded e h f c = (after_worded e h c, λ a. worded_after e h f c a.0 a.1 a.2 a.3 a.4)

-- not so with a conflict: in a + ab, b is in after as worded and not as worked out
pub after_not_worded_with_conflict :
    AfterWorded (choice (event 0) (sequence (event 0) (event 1))) 1 × ¬ After (choice (event 0) (sequence (event 0) (event 1))) 1
unfolding AfterWorded
after_not_worded_with_conflict = ((0 ∷ [], [], omega arith, left one, right (cat (0 ∷ []) (1 ∷ []) one one)), not_after)
  where
    not_after : ¬ After (choice (event 0) (sequence (event 0) (event 1))) 1
    not_after (inl a) = a
    not_after (inr (inl a)) = a
    not_after (inr (inr a)) = false≢true a.0

-- a part whose node is lower than the lowest conflict has no conflict
pub below_lowest_free : (e : Expr) (i k c : ℕ) → LowestConflict e i k c → (j : ℕ) (p : Expr) → Part 0 e j p → j < i → Free p
below_lowest_free e i k c lowest j p w l = (free_iff_no_conflict t.start p).1 none_here
  where
    t : Inner 0 e j p
    t = part_of_part 0 e j p w

    none_here : (m n o : ℕ) → ¬ ConflictAt t.start p m n o
    none_here m n o f =
        let x = t.up_to m f.0 f.1 in
        let y = lowest.node.lowest m (n, o, (f.0, t.parts m f.0 f.1, f.2)) in
        omega arith

-- so its first and after are as worded
pub below_lowest_as_worded : (e : Expr) → Bounded e → (i k c : ℕ) → LowestConflict e i k c → (j : ℕ) (p : Expr) → Part 0 e j p → j < i
    → (d : ℕ) → (First p d ↔ FirstWorded p d) × (After p d ↔ AfterWorded p d)
below_lowest_as_worded e h i k c lowest j p w l d =
    let b = part_bounded 0 e h j p w in
    (first_iff_worded p b d, after_iff_worded p b (below_lowest_free e i k c lowest j p w l) d)
