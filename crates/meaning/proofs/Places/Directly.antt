-- The event nodes of a part are the nodes of its places; one directly follows another in some reading exactly if a step leads
-- from a sound place at the one to a place at the other.
use mathlib.Core.Path.{◌≡◌, refl, sym, ap, ◌∙◌, subst, subst₃}
use mathlib.Core.Logic.{◌↔◌, inl, inr}
use mathlib.Core.List.{List, [], ◌∷◌, ◌++◌, append_cancel_left, tail-eq_of_cons-eq}
use Prim.Native.Nat.{ℕ, zero, suc, ◌+◌}
use native.Mathlib.Omega.{arith}
use lib.ListN.{length}
use Rattle.meaning.specs.Expr.{Expr, empty, event, choice, sequence, repeat, size, Part, Bounded}
use Rattle.meaning.specs.Reading.{Item, place, codes, up_to, Reading}
use Rattle.meaning.specs.Loose.{DirectlyFollows, follows}
use Rattle.meaning.specs.Theory.Places.{Place, node_of, code_at, item_of, Sound, Step}
use Rattle.meaning.proofs.Places.Before.{some_before, some_rest, before_rest_reading, CutAfter, reading_cut, before_ends}
use Rattle.meaning.proofs.General.Facts.{append_cut, last_same}
use Rattle.meaning.proofs.Expressions.Items.{codes_event, events_append, up_to_event, up_to_first}
use Rattle.meaning.proofs.Places.Marks.{closes_no_event, step_no_event}
use Rattle.meaning.proofs.Places.Steps.{Goes, ends, steps, rest_goes, goes_rest, step_sound}

-- the node of a place is an event node, with its code
pub place_part : (s : ℕ) (e : Expr) (p : Place e) → Part s e (node_of s e p) (event (code_at e p))
place_part s empty p = absurd p
place_part s (event c) p = (refl, refl)
place_part s (choice l r) (inl p) = inl (place_part s l p)
place_part s (choice l r) (inr p) = inr (inl (place_part (s + size l) r p))
place_part s (sequence l r) (inl p) = inl (place_part s l p)
place_part s (sequence l r) (inr p) = inr (inl (place_part (s + size l) r p))
place_part s (repeat b lower upper) p = inl (place_part s b p.0)

-- the part is an event
abbrev pub IsEvent : Expr → Type 0
IsEvent empty = ⊥
IsEvent (event c) = Unit {0}
IsEvent (choice l r) = ⊥
IsEvent (sequence l r) = ⊥
IsEvent (repeat b lower upper) = ⊥

-- every event node has a sound place
pub part_place : (s : ℕ) (e : Expr) → Bounded e → (i c : ℕ) → Part s e i (event c) → (p : Place e) × Sound e p × (node_of s e p ≡ i)
part_place s empty h i c w = absurd (subst IsEvent w.1 tt)
part_place s (event d) h i c w = (tt, tt, sym w.0)
part_place s (choice l r) h i c (inl w) = let p = part_place s l h.0 i c w in (inl p.0, p.1, p.2)
part_place s (choice l r) h i c (inr (inl w)) = let p = part_place (s + size l) r h.1 i c w in (inr p.0, p.1, p.2)
part_place s (choice l r) h i c (inr (inr w)) = absurd (subst IsEvent w.1 tt)
part_place s (sequence l r) h i c (inl w) = let p = part_place s l h.0 i c w in (inl p.0, p.1, p.2)
part_place s (sequence l r) h i c (inr (inl w)) = let p = part_place (s + size l) r h.1 i c w in (inr p.0, p.1, p.2)
part_place s (sequence l r) h i c (inr (inr w)) = absurd (subst IsEvent w.1 tt)
part_place s (repeat b lower upper) h i c (inl w) = let p = part_place s b h.0 i c w in ((p.0, zero), (p.1, h.2), p.2)
part_place s (repeat b lower upper) h i c (inr w) = absurd (subst IsEvent w.1 tt)

-- a step from a sound place at node i to the event of node j with the code
pub record StepBetween (e : Expr) (i j code : ℕ) : Type 0 where
  pub from : Place e
  pub to : Place e
  pub marks : List Item
  pub sound : Sound e from
  pub step : Step 0 e from to marks
  pub from_node : node_of 0 e from ≡ i
  pub to_node : node_of 0 e to ≡ j
  pub to_code : code_at e to ≡ code

-- where marks and an event come after a place, a step leads to that event
goes_stepped : (e : Expr) (p : Place e) (y : List Item) → Sound e p → Goes 0 e p y → (m v : List Item) (j c : ℕ) → codes m ≡ [] → y ≡ m ++ (place j c ∷ v)
    → StepBetween e (node_of 0 e p) j c
goes_stepped e p y k (ends d) m v j c n h =
    let held = codes_event m j c v in
    let none_held = ap {B = ℕ} length (closes_no_event 0 e p) in
    let same = ap {B = ℕ} (λ (x : List Item). length (codes x)) h in
    absurd (omega arith)
goes_stepped e p y k (steps q w z t r) m v j c n h =
    let one = up_to_first w z (node_of 0 e q) (code_at e q) (step_no_event 0 e p q w t) in
    let other = up_to_first m v j c n in
    let item = last_same w m (item_of 0 e q) (place j c) (sym one ∙ ap (λ (x : List Item). up_to x 1) h ∙ other) in
    record {
      from = p;
      to = q;
      marks = w;
      sound = k;
      step = t;
      from_node = refl;
      to_node = cc;
      to_code = cc;
    }

-- a reading cut after an event: the place has the event's node, and what comes after it completes the reading
cut_at_event : (e : Expr) (x u y : List Item) (i c : ℕ) → x ≡ u ++ (place i c ∷ y) → (t : CutAfter 0 e x (suc (length (codes u))))
    → (node_of 0 e t.reached ≡ i) × (t.after ≡ y)
cut_at_event e x u y i c h t =
    let n = suc (length (codes u)) in
    let cut_off : up_to x n ≡ u ++ (place i c ∷ []) = ap (λ (z : List Item). up_to z n) h ∙ up_to_event u i c y in
    let last = before_ends 0 e t.reached (up_to x n) t.before in
    let same_item = last_same last.0 u (item_of 0 e t.reached) (place i c) (sym last.1 ∙ cut_off) in
    let whole : u ++ (place i c ∷ t.after) ≡ u ++ (place i c ∷ y) =
    sym (append_cut (up_to x n) u (place i c ∷ []) t.after cut_off) ∙ sym t.whole ∙ h in
    ((cc), tail-eq_of_cons-eq (append_cancel_left u (place i c ∷ t.after) (place i c ∷ y) whole))

-- what directly follows an event is a step away
follows_stepped : (e : Expr) → Bounded e → (i j c : ℕ) → DirectlyFollows e i j c → StepBetween e i j c
follows_stepped e h i j c (follows u m v b n r) =
    let y = m ++ (place j c ∷ v) in
    let x = u ++ (place i b ∷ y) in
    let held = events_append u (place i b ∷ y) in
    let t = reading_cut 0 e h x (length (codes u)) r (omega arith) in
    let k = cut_at_event e x u y i b refl t in
    let goes = rest_goes 0 e h t.reached t.after t.rest in
    subst (λ (z : ℕ). StepBetween e z j c) k.0 (goes_stepped e t.reached t.after t.sound goes m v j c n k.1)

-- a step stands in some reading
step_follows : (e : Expr) → Bounded e → (p t : Place e) (m : List Item) → Sound e p → Step 0 e p t m
    → DirectlyFollows e (node_of 0 e p) (node_of 0 e t) (code_at e t)
step_follows e h p t m k w =
    let u = some_before 0 e h p k in
    let y = some_rest 0 e h t (step_sound 0 e h p t m k w) in
    let x = before_ends 0 e p u.0 u.1 in
    let z = m ++ (item_of 0 e t ∷ y.0) in
    let all = before_rest_reading 0 e p u.0 z u.1 (goes_rest 0 e h p k z (steps t m y.0 w y.1)) in
    follows x.0 m y.0 (code_at e p) (step_no_event 0 e p t m w)
    (subst (Reading 0 e) (append_cut u.0 x.0 (item_of 0 e p ∷ []) z x.1) all)

-- so to follow directly is to be a step away
pub follows_iff_stepped : (e : Expr) → Bounded e → (i j c : ℕ) → DirectlyFollows e i j c ↔ StepBetween e i j c
follows_iff_stepped e h i j c = (
  follows_stepped e h i j c,
  λ k. subst₃ (DirectlyFollows e) k.from_node k.to_node k.to_code (step_follows e h k.from k.to k.marks k.sound k.step),
)
