-- Which event nodes can directly follow one another in the loosened procedure: a recursion over the tree that reads no counter
-- finds exactly those. Every step of the procedure itself is among them, so every event that continues a run is.
use mathlib.Core.Path.{◌≡◌, refl, sym, ap, ap₂, ◌∙◌, subst, subst₂}
use mathlib.Core.Logic.Iff
use mathlib.Core.Logic.{◌↔◌, inl, inr}
use mathlib.Core.Bool.{Bool, true, false, ◌&&◌, ◌||◌, cond, So, false≢true}
use mathlib.Core.List.{List}
use Prim.Native.Nat.{ℕ, zero, suc, ◌+◌, ◌≤◌}
use native.Mathlib.Omega.{arith}
use Rattle.meaning.specs.Expr.{Expr, empty, event, choice, sequence, repeat, size, Upper, upto, endless, Within, Whole, Part, Bounded}
use Rattle.meaning.specs.Normal.{is_zero, nullable, low}
use Rattle.meaning.specs.Reading.{Item}
use Rattle.meaning.specs.Loose.{many, at_most_one, loosen, DirectlyFollows}
use Rattle.meaning.specs.Promises.{Lights}
use Rattle.meaning.specs.Theory.Places.{Place, node_of, code_at, Step}
use Rattle.meaning.specs.Theory.Ways.{Entry, enters, apart, entry, Way, turns, ends, stuck, or_else, map_entry, another, way, map_way, Turned, climb}
use Rattle.meaning.specs.Theory.Near.{there, near, Near}
use Rattle.meaning.proofs.General.Facts.{iff_sum, so_leb, not_leb, low_le}
use Rattle.meaning.proofs.Places.Marks.{node_from, node_below}
use Rattle.meaning.proofs.Places.Directly.{place_part, IsEvent, part_place, StepBetween, follows_iff_stepped}
use Rattle.meaning.proofs.Expressions.Records.{code_of_node}
use Rattle.meaning.proofs.Places.Ways.{again, enough, Unstuck, climb_turned_below, climb_turned_here, climb_unstuck, step_turned, turned_to, way_step}

-- ---- the way of the procedure itself

-- the second way turns where the first turns, and is stuck only where the first is
abbrev Covers : {A B : Type 0} → Way A → Way B → Type 0
Covers x y = (Turned x → Turned y) × (Unstuck x → Unstuck y)

-- an entry stands there
abbrev entered : {A : Type 0} → Entry A → Bool
entered (enters a) = true
entered apart = false

-- what turns is not stuck
turned_unstuck : {A : Type 0} (x : Way A) → Turned x → Unstuck x
turned_unstuck (turns a) h = tt
turned_unstuck ends h = absurd h
turned_unstuck stuck h = absurd h

-- what is entered is entered at a place
entered_at : {A : Type 0} (y : Entry A) → So (entered y) → (a : A) × (y ≡ enters a)
entered_at (enters a) h = (a, refl)
entered_at apart h = absurd (false≢true h)

module _ {A B C A' B' C' : Type 0} (f : A → C) (g : B → C) (f' : A' → C') (g' : B' → C') where
  -- the climb from a covering way, with an entry and an end wherever the other has them, covers the other climb
  climb_covers : (x : Way A) (y : Entry B) (b : Bool) (x' : Way A') (y' : Entry B') (b' : Bool) → Covers x x' → (So (entered y) → So (entered y')) → (So b → So b')
      → Covers (climb f x g y b) (climb f' x' g' y' b')
  climb_covers (turns a) y b x' y' b' h e k =
      let t = climb_turned_below f' g' x' y' b' (h.0 tt) in (λ _. t, λ _. turned_unstuck (climb f' x' g' y' b') t)
  climb_covers ends (enters a) b x' y' b' h e k =
      let z = entered_at y' (e refl) in
      let t = climb_turned_here f' g' x' y' b' z.0 (h.1 tt) z.1 in (λ _. t, λ _. turned_unstuck (climb f' x' g' y' b') t)
  climb_covers ends apart true x' y' b' h e k = (λ z. absurd z, λ _. climb_unstuck f' g' x' y' b' (h.1 tt) (k refl))
  climb_covers ends apart false x' y' b' h e k = (λ z. absurd z, λ z. absurd z)
  climb_covers stuck y b x' y' b' h e k = (λ z. absurd z, λ z. absurd z)

-- likewise within a child alone
child_covers : {A B C D : Type 0} (f : A → B) (g : C → D) (x : Way A) (y : Way C) → Covers x y → Covers (map_way f x ends) (map_way g y ends)
child_covers f g x y h = climb_covers f f g g x apart true y apart true h (λ z. z) (λ z. z)

-- an entry behind a wider test
entered_behind : {A : Type 0} (b d : Bool) (x : Entry A) → (So b → So d) → So (entered (cond b x apart)) → So (entered (cond d x apart))
entered_behind true true x h = λ z. z
entered_behind true false x h = absurd (false≢true (h refl))
entered_behind false d x h = λ z. absurd (false≢true z)

-- where one more block is allowed, upper is at least 2
another-many : (k : ℕ) (upper : Upper) → So (another k upper) → So (many upper)
another-many k (upto n) h = let g = (so_leb (suc (suc k)) n).0 h in (so_leb 2 n).1 (omega arith)
another-many k endless h = refl

-- the way in the loosened part covers that in the part itself
way_near : (s : ℕ) (e : Expr) (p : Place e) (q : ℕ) → Covers (way s e p q) (near s e p q)
way_near s empty p q = absurd p
way_near s (event c) p q = (λ h. h, λ h. h)
way_near s (choice l r) (inl p) q = child_covers inl there (way s l p q) (near s l p q) (way_near s l p q)
way_near s (choice l r) (inr p) q = child_covers inr there (way (s + size l) r p q) (near (s + size l) r p q) (way_near (s + size l) r p q)
way_near s (sequence l r) (inl p) q =
    let y = entry (s + size l) r q in
    climb_covers inl inr there there (way s l p q) y (nullable r) (near s l p q) y (nullable r) (way_near s l p q) (λ h. h) (λ h. h)
way_near s (sequence l r) (inr p) q = child_covers inr there (way (s + size l) r p q) (near (s + size l) r p q) (way_near (s + size l) r p q)
way_near s (repeat b lower upper) p q =
    climb_covers (λ t. (t, p.1)) (λ t. (t, suc p.1)) there there (way s b p.0 q) (again s b p.1 upper q) (enough b lower p.1)
    (near s b p.0 q) (cond (many upper) (entry s b q) apart) true (way_near s b p.0 q)
    (entered_behind (another p.1 upper) (many upper) (entry s b q) (another-many p.1 upper)) (λ h. refl)

-- a step of the procedure itself leads to a node that is near
pub step_near : (s : ℕ) (e : Expr) (p t : Place e) (m : List Item) → Step s e p t m → Near s e p (node_of s e t)
step_near s e p t m w = (way_near s e p (node_of s e t)).0 (step_turned s e p t m w)

-- ---- the loosened part

-- d is e loosened: a repeat may end after each of its blocks, and begin another exactly if upper was at least 2
data Loose : Expr → Expr → Type 0 where
  loose_empty : Loose empty empty
  loose_event : (c : ℕ) → Loose (event c) (event c)
  loose_choice : {l k r t : Expr} → Loose l k → Loose r t → Loose (choice l r) (choice k t)
  loose_sequence : {l k r t : Expr} → Loose l k → Loose r t → Loose (sequence l r) (sequence k t)
  loose_repeat : {b d : Expr} (lower low' : ℕ) (upper up' : Upper) → Loose b d → is_zero low' || nullable d ≡ is_zero lower || nullable b
      → low (nullable d) low' ≤ 1 → ((k : ℕ) → another k up' ≡ many upper) → Within low' up' → Within 1 up'
      → Loose (repeat b lower upper) (repeat d low' up')

-- as many nodes
loose_size : {e d : Expr} → Loose e d → size d ≡ size e
loose_size loose_empty = refl
loose_size (loose_event c) = refl
loose_size (loose_choice x y) = omega (arith, loose_size x, loose_size y)
loose_size (loose_sequence x y) = omega (arith, loose_size x, loose_size y)
loose_size (loose_repeat lower low' upper up' x n lo an wl wo) = omega (arith, loose_size x)

-- empty where e may be
loose_nullable : {e d : Expr} → Loose e d → nullable d ≡ nullable e
loose_nullable loose_empty = refl
loose_nullable (loose_event c) = refl
loose_nullable (loose_choice x y) = ap₂ ◌||◌ (loose_nullable x) (loose_nullable y)
loose_nullable (loose_sequence x y) = ap₂ ◌&&◌ (loose_nullable x) (loose_nullable y)
loose_nullable (loose_repeat lower low' upper up' x n lo an wl wo) = n

-- bounds in order
loose_bounded : {e d : Expr} → Loose e d → Bounded d
loose_bounded loose_empty = tt
loose_bounded (loose_event c) = tt
loose_bounded (loose_choice x y) = (loose_bounded x, loose_bounded y)
loose_bounded (loose_sequence x y) = (loose_bounded x, loose_bounded y)
loose_bounded (loose_repeat lower low' upper up' x n lo an wl wo) = (loose_bounded x, wl, wo)

-- a loosened lower bound is 0 exactly where the normal-form lower bound is
null_same : (n : Bool) (lower : ℕ) → is_zero (at_most_one (low n lower)) || n ≡ is_zero lower || n
null_same true zero = refl
null_same true (suc k) = refl
null_same false zero = refl
null_same false (suc k) = refl

-- and at most 1
at_most_one_lem : (n : ℕ) → at_most_one n ≤ 1
at_most_one_lem zero = omega arith
at_most_one_lem (suc n) = omega arith

-- so is the normal form of what is at most 1
low_one : (n : Bool) (lower : ℕ) → lower ≤ 1 → low n lower ≤ 1
low_one n lower h = let g = low_le n lower in omega arith

-- a repeat over a loosened body is loosened; where upper is 1 its bounds stay
loosen_repeat : {b d : Expr} (lower : ℕ) (upper : Upper) → Loose b d → Within lower upper → Within 1 upper → (m : Bool) → many upper ≡ m
    → Loose (repeat b lower upper) (cond m (repeat d (at_most_one (low (nullable b) lower)) endless) (repeat d lower upper))
loosen_repeat {b} {d} lower upper x h k true e =
    let one = at_most_one (low (nullable b) lower) in
    loose_repeat lower one upper endless x (ap (λ n. is_zero one || n) (loose_nullable x) ∙ null_same (nullable b) lower)
    (low_one (nullable d) one (at_most_one_lem (low (nullable b) lower))) (λ _. sym e) tt tt
loosen_repeat {b} {d} lower (upto n) x h k false e =
    let few = (not_leb 2 n).0 e in
    loose_repeat lower lower (upto n) (upto n) x (ap (λ n. is_zero lower || n) (loose_nullable x))
    (low_one (nullable d) lower (omega arith)) (λ k. (not_leb (suc (suc k)) n).1 (omega arith) ∙ sym e) h k
loosen_repeat {b} {d} lower endless x h k false e = absurd (false≢true (sym e))

-- `loosen` gives the loosened part
loosen_loose : (e : Expr) → Bounded e → Loose e (loosen e)
loosen_loose empty h = loose_empty
loosen_loose (event c) h = loose_event c
loosen_loose (choice l r) h = loose_choice (loosen_loose l h.0) (loosen_loose r h.1)
loosen_loose (sequence l r) h = loose_sequence (loosen_loose l h.0) (loosen_loose r h.1)
loosen_loose (repeat b lower upper) h = loosen_repeat lower upper (loosen_loose b h.0) h.1 h.2 (many upper) refl

-- ---- event nodes, entries and ways of the loosened part

-- no other kind of part is an event
no_whole : (s z i c : ℕ) (e d : Expr) → ¬ IsEvent e → ¬ IsEvent d → Whole z e i (event c) ↔ Whole s d i (event c)
no_whole s z i c e d f g = (λ w. absurd (f (subst IsEvent w.1 tt)), λ w. absurd (g (subst IsEvent w.1 tt)))

-- the event nodes and their codes stay
loose_part : {e d : Expr} → Loose e d → (s z : ℕ) → s ≡ z → (i c : ℕ) → Part z e i (event c) ↔ Part s d i (event c)
loose_part loose_empty s z h i c = no_whole s z i c empty empty (λ u. u) (λ u. u)
loose_part (loose_event f) s z h i c = (λ w. (w.0 ∙ sym h, w.1), λ w. (w.0 ∙ h, w.1))
loose_part (loose_choice {l} {k} {r} {t} x y) s z h i c =
    let right = loose_part y (s + size k) (z + size l) (omega (arith, loose_size x)) i c in
    iff_sum (loose_part x s z h i c) (iff_sum right (no_whole s z i c (choice l r) (choice k t) (λ u. u) (λ u. u)))
loose_part (loose_sequence {l} {k} {r} {t} x y) s z h i c =
    let right = loose_part y (s + size k) (z + size l) (omega (arith, loose_size x)) i c in
    iff_sum (loose_part x s z h i c) (iff_sum right (no_whole s z i c (sequence l r) (sequence k t) (λ u. u) (λ u. u)))
loose_part (loose_repeat {b} {d} lower low' upper up' x n lo an wl wo) s z h i c =
    iff_sum (loose_part x s z h i c) (no_whole s z i c (repeat b lower upper) (repeat d low' up') (λ u. u) (λ u. u))

-- where there is an entry into one of two children, the second behind a test; behind a test alone; into a child alone
entered_pair : {A B C : Type 0} (f : A → C) (g : B → C) (b : Bool) (x : Entry A) (y : Entry B)
    → entered (or_else (map_entry f x) (cond b (map_entry g y) apart)) ≡ entered x || (b && entered y)
entered_pair f g b (enters a) y = refl
entered_pair f g true apart (enters a) = refl
entered_pair f g true apart apart = refl
entered_pair f g false apart y = refl

entered_cond : {A : Type 0} (b : Bool) (x : Entry A) → entered (cond b x apart) ≡ b && entered x
entered_cond true x = refl
entered_cond false x = refl

entered_map : {A B : Type 0} (f : A → B) (x : Entry A) → entered (map_entry f x) ≡ entered x
entered_map f (enters a) = refl
entered_map f apart = refl

-- the entries stay
loose_entry : {e d : Expr} → Loose e d → (s z : ℕ) → s ≡ z → (q : ℕ) → entered (entry s d q) ≡ entered (entry z e q)
loose_entry loose_empty s z h q = refl
loose_entry (loose_event f) s z h q = ap {B = Bool} (λ n. entered (entry n (event f) q)) h
loose_entry (loose_choice {l} {k} {r} {t} x y) s z h q =
    let a = loose_entry x s z h q in
    let b = loose_entry y (s + size k) (z + size l) (omega (arith, loose_size x)) q in
    entered_pair inl inr true (entry s k q) (entry (s + size k) t q) ∙ ap₂ ◌||◌ a b
    ∙ sym (entered_pair inl inr true (entry z l q) (entry (z + size l) r q))
loose_entry (loose_sequence {l} {k} {r} {t} x y) s z h q =
    let a = loose_entry x s z h q in
    let b = loose_entry y (s + size k) (z + size l) (omega (arith, loose_size x)) q in
    entered_pair inl inr (nullable k) (entry s k q) (entry (s + size k) t q) ∙ ap₂ ◌||◌ a (ap₂ ◌&&◌ (loose_nullable x) b)
    ∙ sym (entered_pair inl inr (nullable l) (entry z l q) (entry (z + size l) r q))
loose_entry (loose_repeat {b} {d} lower low' upper up' x n lo an wl wo) s z h q =
    entered_map (λ p. (p, zero)) (entry s d q) ∙ loose_entry x s z h q ∙ sym (entered_map (λ p. (p, zero)) (entry z b q))

-- each way covers the other
abbrev CoverEachOther : {A B : Type 0} → Way A → Way B → Type 0
CoverEachOther x y = Covers x y × Covers y x

module _ {A B C A' B' C' : Type 0} (f : A → C) (g : B → C) (f' : A' → C') (g' : B' → C') where
  -- climbs from ways that agree, with the same entry and end, agree
  climb_agrees : (x : Way A) (y : Entry B) (b : Bool) (x' : Way A') (y' : Entry B') (b' : Bool) → CoverEachOther x x' → entered y ≡ entered y' → b ≡ b'
      → CoverEachOther (climb f x g y b) (climb f' x' g' y' b')
  climb_agrees x y b x' y' b' h e k = (
    climb_covers f g f' g' x y b x' y' b' h.0 (λ w. sym e ∙ w) (λ w. sym k ∙ w),
    climb_covers f' g' f g x' y' b' x y b h.1 (λ w. e ∙ w) (λ w. k ∙ w),
  )

-- likewise within a child alone
child_agrees : {A B C D : Type 0} (f : A → B) (g : C → D) (x : Way A) (y : Way C) → CoverEachOther x y → CoverEachOther (map_way f x ends) (map_way g y ends)
child_agrees f g x y h = climb_agrees f f g g x apart true y apart true h refl refl

-- the nodes of a part are none of those of a part behind it
before_not_behind : (s z : ℕ) (l r : Expr) (p : Place l) (t : Place r) → s + size l ≤ z → ¬ (node_of s l p ≡ node_of z r t)
before_not_behind s z l r p t h e =
    let a = node_below s l p in
    let b = node_from z r t in
    omega arith

-- the way in the loosened part, from any place of the same node
loose_way : {e d : Expr} → Loose e d → (s z : ℕ) → s ≡ z → (p : Place e) (t : Place d) → node_of s d t ≡ node_of z e p → (q : ℕ)
    → CoverEachOther (way s d t q) (near z e p q)
loose_way loose_empty s z h p t i q = absurd p
loose_way (loose_event f) s z h p t i q = ((λ w. w, λ w. w), (λ w. w, λ w. w))
loose_way (loose_choice {l} {k} {r} {t = m} x y) s z h (inl p) (inl t) i q =
    child_agrees inl there (way s k t q) (near z l p q) (loose_way x s z h p t i q)
loose_way (loose_choice {l} {k} {r} {t = m} x y) s z h (inl p) (inr t) i q =
    absurd (before_not_behind z (s + size k) l m p t (omega (arith, loose_size x)) (sym i))
loose_way (loose_choice {l} {k} {r} {t = m} x y) s z h (inr p) (inl t) i q =
    absurd (before_not_behind s (z + size l) k r t p (omega (arith, loose_size x)) i)
loose_way (loose_choice {l} {k} {r} {t = m} x y) s z h (inr p) (inr t) i q =
    let g : s + size k ≡ z + size l = omega (arith, loose_size x) in
    child_agrees inr there (way (s + size k) m t q) (near (z + size l) r p q) (loose_way y (s + size k) (z + size l) g p t i q)
loose_way (loose_sequence {l} {k} {r} {t = m} x y) s z h (inl p) (inl t) i q =
    let g : s + size k ≡ z + size l = omega (arith, loose_size x) in
    climb_agrees inl inr there there (way s k t q) (entry (s + size k) m q) (nullable m) (near z l p q) (entry (z + size l) r q) (nullable r)
    (loose_way x s z h p t i q) (loose_entry y (s + size k) (z + size l) g q) (loose_nullable y)
loose_way (loose_sequence {l} {k} {r} {t = m} x y) s z h (inl p) (inr t) i q =
    absurd (before_not_behind z (s + size k) l m p t (omega (arith, loose_size x)) (sym i))
loose_way (loose_sequence {l} {k} {r} {t = m} x y) s z h (inr p) (inl t) i q =
    absurd (before_not_behind s (z + size l) k r t p (omega (arith, loose_size x)) i)
loose_way (loose_sequence {l} {k} {r} {t = m} x y) s z h (inr p) (inr t) i q =
    let g : s + size k ≡ z + size l = omega (arith, loose_size x) in
    child_agrees inr there (way (s + size k) m t q) (near (z + size l) r p q) (loose_way y (s + size k) (z + size l) g p t i q)
loose_way (loose_repeat {b} {d} lower low' upper up' x n lo an wl wo) s z h p t i q =
    let v = cond (many upper) (entry z b q) apart in
    let e = entered_cond (another t.1 up') (entry s d q) ∙ ap₂ ◌&&◌ (an t.1) (loose_entry x s z h q)
    ∙ sym (entered_cond (many upper) (entry z b q)) in
    climb_agrees (λ a. (a, t.1)) (λ a. (a, suc t.1)) there there (way s d t.0 q) (again s d t.1 up' q) (enough d low' t.1)
    (near z b p.0 q) v true (loose_way x s z h p.0 t.0 i q) e ((so_leb (low (nullable d) low') (suc t.1)).1 (omega arith))

-- ---- what directly follows

-- a step of the loosened part leads from the node of a place to exactly the event nodes that are near
stepped_iff_near : {e d : Expr} → Loose e d → (p : Place e) (j c : ℕ) → StepBetween d (node_of 0 e p) j c ↔ (Near 0 e p j × Part 0 e j (event c))
stepped_iff_near {e} {d} x p j c = (
  λ k. (
    (loose_way x 0 0 refl p k.from k.from_node j).0.0
        (subst (λ (n : ℕ). Turned (way 0 d k.from n)) k.to_node (step_turned 0 d k.from k.to k.marks k.step)),
    (loose_part x 0 0 refl j c).1 (subst₂ (λ (n a : ℕ). Part 0 d n (event a)) k.to_node k.to_code (place_part 0 d k.to)),
  ),
  λ f.
      let i = node_of 0 e p in
      let t = part_place 0 d (loose_bounded x) i (code_at e p) ((loose_part x 0 0 refl i (code_at e p)).0 (place_part 0 e p)) in
      let turn = turned_to (way 0 d t.0 j) ((loose_way x 0 0 refl p t.0 t.2 j).1.0 f.0) in
      let k = way_step 0 d t.0 j turn.0 turn.1 in
      let code_there = subst (λ (n : ℕ). Part 0 d n (event (code_at d turn.0))) k.2 (place_part 0 d turn.0) in
      record {
        from = t.0;
        to = turn.0;
        marks = k.0;
        sound = t.1;
        step = k.1;
        from_node = t.2;
        to_node = k.2;
        to_code = code_of_node d j (code_at d turn.0) c code_there ((loose_part x 0 0 refl j c).0 f.1);
      },
)

-- an event node directly follows that of a place in some reading of the loosened procedure exactly if it is near
pub follows_iff_near : (e : Expr) → Bounded e → (p : Place e) (j c : ℕ)
    → DirectlyFollows (loosen e) (node_of 0 e p) j c ↔ (Near 0 e p j × Part 0 e j (event c))
follows_iff_near e h p j c =
    let x = loosen_loose e h in
    Iff.trans (follows_iff_stepped (loosen e) (loose_bounded x) (node_of 0 e p) j c) (stepped_iff_near x p j c)

-- and what follows one is an event node
pub lit_part : (e : Expr) → Bounded e → (i c : ℕ) → Lights e (suc i) c → (j : ℕ) × Part 0 e j (event c)
lit_part e h i c f =
    let x = loosen_loose e h in
    let k = (follows_iff_stepped (loosen e) (loose_bounded x) i f.0 c).0 f.1 in
    (f.0, (loose_part x 0 0 refl f.0 c).1 (subst₂ (λ (n a : ℕ). Part 0 (loosen e) n (event a)) k.to_node k.to_code (place_part 0 (loosen e) k.to)))

-- so a code is lit at a place exactly if it is that of an event node that is near
pub lights_iff_near : (e : Expr) → Bounded e → (p : Place e) (c : ℕ) → Lights e (suc (node_of 0 e p)) c ↔ ((j : ℕ) × Near 0 e p j × Part 0 e j (event c))
lights_iff_near e h p c = (
  λ f. let k = (follows_iff_near e h p f.0 c).0 f.1 in (f.0, k.0, k.1),
  λ f. (f.0, (follows_iff_near e h p f.0 c).1 (f.1, f.2)),
)
