-- The way from a place to an event node: upward while parts end, until a node where it turns towards the event.
-- A model of our code, tied to the steps between places.
use mathlib.Core.Path.{◌≡◌, refl, sym, ◌∙◌, subst, subst⁻¹}
use mathlib.Core.Logic.Iff
use mathlib.Core.Logic.{◌↔◌, inl, inr}
use mathlib.Core.Bool.{Bool, true, false, cond, So, false≢true}
use mathlib.Core.List.{List, ◌∷◌, ◌++◌}
use Prim.Native.Nat.{ℕ, zero, suc, ◌+◌, ◌≤◌}
use native.Mathlib.Omega.{arith}
use lib.Dec.{eqb, leb}
use Rattle.meaning.specs.Expr.{Expr, empty, event, choice, sequence, repeat, size, Upper, upto, endless, Within}
use Rattle.meaning.specs.Normal.{nullable, low}
use Rattle.meaning.specs.Reading.{Item, opening, closing}
use Rattle.meaning.specs.Theory.Places.{Place, node_of, CanStart, opens, CanEnd, closes, Step}
use Rattle.meaning.specs.Theory.Ways.{Entry, enters, apart, or_else, map_entry, entry, Way, turns, ends, stuck, map_way, climb, another, way, Turned}
use Rattle.meaning.proofs.General.Facts.{so_leb, so_eqb, within_le}
use Rattle.meaning.proofs.Places.Marks.{node_below, left_not_right}

-- ---- entries

-- an entry behind a test is there exactly if the test passes and the entry is there
entry_behind : {A : Type 0} (b : Bool) (x : Entry A) (a : A) → (cond b x apart ≡ enters a) ↔ (So b × (x ≡ enters a))
entry_behind true x a = (λ h. (refl, h), λ h. h.1)
entry_behind false x a = (λ h. ((cc), (cc)), λ h. absurd (false≢true h.0))

-- of two entries, one of the left child and one of the right behind a test, the left one is taken where it is there
pair_left : {A B : Type 0} (b : Bool) (x : Entry A) (y : Entry B) (a : A)
    → (or_else (map_entry inl x) (cond b (map_entry inr y) apart) ≡ enters (inl a)) ↔ (x ≡ enters a)
pair_left b (enters c) y a = (λ h. cc, λ h. cc)
pair_left true apart (enters c) a = (λ h. cc, λ h. cc)
pair_left true apart apart a = (λ h. cc, λ h. cc)
pair_left false apart y a = (λ h. cc, λ h. cc)

-- and the right one where it is there, if the two are never both there
pair_right : {A B : Type 0} (b : Bool) (x : Entry A) (y : Entry B) (c : B) → ((a : A) → x ≡ enters a → ¬ (y ≡ enters c))
    → (or_else (map_entry inl x) (cond b (map_entry inr y) apart) ≡ enters (inr c)) ↔ (So b × (y ≡ enters c))
pair_right b (enters a) y c d = (λ h. ((cc), (cc)), λ h. absurd (d a refl h.1))
pair_right true apart (enters a) c d = (λ h. ((cc), (cc)), λ h. let g = h.1 in cc)
pair_right true apart apart c d = (λ h. ((cc), (cc)), λ h. let g = h.1 in cc)
pair_right false apart y c d = (λ h. ((cc), (cc)), λ h. absurd (false≢true h.0))

-- an entry into the body is one into the repeat, with no block completed
zeroth_entry : {A : Type 0} (x : Entry A) (t : A × ℕ) → (map_entry (λ p. (p, zero)) x ≡ enters t) ↔ ((x ≡ enters t.0) × (t.1 ≡ zero))
zeroth_entry (enters a) t = (
  λ h. let g : (a, zero) ≡ t = cc in (λ i. enters (g i).0, λ i. (sym g i).1),
  λ h.
      let x = h.0 in
      let g : a ≡ t.0 = cc in
      let z = sym h.1 in
      λ i. enters (g i, z i),
)
zeroth_entry apart t = (λ h. ((cc), (cc)), λ h. let g = h.0 in cc)

-- an entry into the right child, where no node lies in both
right_entry : (b : Bool) (s : ℕ) (l r : Expr) (q : ℕ) (t : Place r)
    → ((a : Place l) → (entry s l q ≡ enters a) ↔ (CanStart l a × (node_of s l a ≡ q)))
    → (entry (s + size l) r q ≡ enters t) ↔ (CanStart r t × (node_of (s + size l) r t ≡ q))
    → (or_else (map_entry inl (entry s l q)) (cond b (map_entry inr (entry (s + size l) r q)) apart) ≡ enters (inr t))
    ↔ (So b × CanStart r t × (node_of (s + size l) r t ≡ q))
right_entry b s l r q t f g =
    let k = pair_right b (entry s l q) (entry (s + size l) r q) t (λ a x y. left_not_right s l r a t (((f a).0 x).1 ∙ sym (g.0 y).1)) in (
      λ h. let z = k.0 h in let w = g.0 z.1 in (z.0, w.0, w.1),
      λ h. k.1 (h.0, g.1 (h.1, h.2)),
    )

-- an entry is a place that can start, at that node
pub entry_iff : (s : ℕ) (e : Expr) (q : ℕ) (t : Place e) → (entry s e q ≡ enters t) ↔ (CanStart e t × (node_of s e t ≡ q))
entry_iff s empty q t = absurd t
entry_iff s (event c) q t =
    let k = entry_behind (eqb q s) (enters tt) t in (
      λ h. (tt, sym ((so_eqb q s).0 (k.0 h).0)),
      λ h. k.1 ((so_eqb q s).1 (sym h.1), refl),
    )
entry_iff s (choice l r) q (inl t) = Iff.trans (pair_left true (entry s l q) (entry (s + size l) r q) t) (entry_iff s l q t)
entry_iff s (choice l r) q (inr t) =
    let k = right_entry true s l r q t (entry_iff s l q) (entry_iff (s + size l) r q t) in
    (λ h. ((k.0 h).1, (k.0 h).2), λ h. k.1 (refl, h.0, h.1))
entry_iff s (sequence l r) q (inl t) = Iff.trans (pair_left (nullable l) (entry s l q) (entry (s + size l) r q) t) (entry_iff s l q t)
entry_iff s (sequence l r) q (inr t) =
    let k = right_entry (nullable l) s l r q t (entry_iff s l q) (entry_iff (s + size l) r q t) in
    (λ h. (((k.0 h).0, (k.0 h).1), (k.0 h).2), λ h. k.1 (h.0.0, h.0.1, h.1))
entry_iff s (repeat b lower upper) q t =
    let k = zeroth_entry (entry s b q) t in
    let i = entry_iff s b q t.0 in
    (λ h. let z = k.0 h in (((i.0 z.0).0, z.1), (i.0 z.0).1), λ h. k.1 (i.1 (h.0.0, h.1), h.0.1))

-- ---- a turn is a step

-- the way turns somewhere, or the part ends
abbrev pub Unstuck : {A : Type 0} → Way A → Type 0
Unstuck (turns a) = Unit {0}
Unstuck ends = Unit {0}
Unstuck stuck = ⊥

-- one more block is allowed exactly if the upper bound has room for it
another_iff : (k : ℕ) (upper : Upper) → So (another k upper) ↔ Within (suc (suc k)) upper
another_iff k (upto n) = so_leb (suc (suc k)) n
another_iff k endless = (λ h. tt, λ h. refl)

-- no entry is none
no_entry : {A : Type 0} (a : A) → ¬ (apart ≡ enters a)
no_entry a w = let z : ◌≡◌ {A = ℕ} 0 1 = cc in omega arith

module _ {A B C : Type 0} (f : A → C) (g : B → C) where
  -- it turns where the way below turns, or at the entry where the way below ends
  climb_turns : (P : C → Type 0) (x : Way A) (y : Entry B) (b : Bool) → ((a : A) → x ≡ turns a → P (f a))
      → (x ≡ ends → (a : B) → y ≡ enters a → P (g a)) → (t : C) → climb f x g y b ≡ turns t → P t
  climb_turns P (turns a) y b below here t w = let e : f a ≡ t = cc in subst P e (below a refl)
  climb_turns P ends (enters a) b below here t w = let e : g a ≡ t = cc in subst P e (here refl a refl)
  climb_turns P ends apart true below here t w = absurd (subst⁻¹ Turned w tt)
  climb_turns P ends apart false below here t w = absurd (subst⁻¹ Turned w tt)
  climb_turns P stuck y b below here t w = absurd (subst⁻¹ Turned w tt)

  -- it ends where the way below ends, behind the test
  climb_ends : (x : Way A) (y : Entry B) (b : Bool) → climb f x g y b ≡ ends → (x ≡ ends) × So b
  climb_ends (turns a) y b w = ((cc), (cc))
  climb_ends ends (enters a) b w = ((cc), (cc))
  climb_ends ends apart true w = (refl, refl)
  climb_ends ends apart false w = ((cc), (cc))
  climb_ends stuck y b w = ((cc), (cc))

  -- it turns where the way below turns
  pub climb_turned_below : (x : Way A) (y : Entry B) (b : Bool) → Turned x → Turned (climb f x g y b)
  climb_turned_below (turns a) y b h = tt
  climb_turned_below ends y b h = absurd h
  climb_turned_below stuck y b h = absurd h

  -- it turns at an entry, unless it is stuck below
  pub climb_turned_here : (x : Way A) (y : Entry B) (b : Bool) (a : B) → Unstuck x → y ≡ enters a → Turned (climb f x g y b)
  climb_turned_here (turns a) y b c h e = tt
  climb_turned_here ends (enters a) b c h e = tt
  climb_turned_here ends apart b c h e = absurd (no_entry c e)
  climb_turned_here stuck y b c h e = absurd h

  -- it is not stuck where it is not stuck below and the test passes
  pub climb_unstuck : (x : Way A) (y : Entry B) (b : Bool) → Unstuck x → So b → Unstuck (climb f x g y b)
  climb_unstuck (turns a) y b h k = tt
  climb_unstuck ends (enters a) b h k = tt
  climb_unstuck ends apart true h k = tt
  climb_unstuck ends apart false h k = absurd (false≢true k)
  climb_unstuck stuck y b h k = absurd h

-- an entry into one more block of a repeat, k + 1 of them begun
abbrev pub again : ℕ → (b : Expr) → ℕ → Upper → ℕ → Entry (Place b)
again s b k upper q = cond (another k upper) (entry s b q) apart

-- the blocks begun are enough
abbrev pub enough : Expr → ℕ → ℕ → Bool
enough b lower k = leb (low (nullable b) lower) (suc k)

-- a step leads from the place to the other, which has the node
abbrev pub Leads : ℕ → (e : Expr) → Place e → ℕ → Place e → Type 0
Leads s e p q t = (m : List Item) × Step s e p t m × (node_of s e t ≡ q)

-- where the way ends, a reading of the part may end
ends_can_end : (s : ℕ) (e : Expr) (p : Place e) (q : ℕ) → way s e p q ≡ ends → CanEnd e p
ends_can_end s empty p q w = absurd p
ends_can_end s (event c) p q w = tt
ends_can_end s (choice l r) (inl p) q w = ends_can_end s l p q (climb_ends inl inl (way s l p q) apart true w).0
ends_can_end s (choice l r) (inr p) q w = ends_can_end (s + size l) r p q (climb_ends inr inr (way (s + size l) r p q) apart true w).0
ends_can_end s (sequence l r) (inl p) q w =
    let k = climb_ends inl inr (way s l p q) (entry (s + size l) r q) (nullable r) w in
    (ends_can_end s l p q k.0, k.1)
ends_can_end s (sequence l r) (inr p) q w = ends_can_end (s + size l) r p q (climb_ends inr inr (way (s + size l) r p q) apart true w).0
ends_can_end s (repeat b lower upper) p q w =
    let k = climb_ends (λ t. (t, p.1)) (λ t. (t, suc p.1)) (way s b p.0 q) (again s b p.1 upper q) (enough b lower p.1) w in
    (ends_can_end s b p.0 q k.0, (so_leb (low (nullable b) lower) (suc p.1)).0 k.1)

-- a turn within a child alone
child_turns : {A B : Type 0} (f : A → B) (P : B → Type 0) (x : Way A) → ((a : A) → x ≡ turns a → P (f a)) → (t : B) → map_way f x ends ≡ turns t → P t
child_turns f P x below = climb_turns f f P x apart true below (λ e a w. absurd (no_entry a w))

-- where the left part of a sequence ends, an entry into the right is a step
right_leads : (s : ℕ) (l r : Expr) (p : Place l) (q : ℕ) (a : Place r) → CanEnd l p → entry (s + size l) r q ≡ enters a
    → Leads s (sequence l r) (inl p) q (inr a)
right_leads s l r p q a c w =
    let k = (entry_iff (s + size l) r q a).0 w in (closes s l p ++ opens (s + size l) r a, (c, k.0, refl), k.1)

-- a step inside the body of a repeat
inner_leads : (s : ℕ) (b : Expr) (lower : ℕ) (upper : Upper) (p : Place b × ℕ) (q : ℕ) (a : Place b) → Leads s b p.0 q a
    → Leads s (repeat b lower upper) p q (a, p.1)
inner_leads s b lower upper p q a k = (k.0, inl (k.1, refl), k.2)

-- where the body ends, an entry into one more block is a step
block_leads : (s : ℕ) (b : Expr) (lower : ℕ) (upper : Upper) (p : Place b × ℕ) (q : ℕ) (a : Place b) → CanEnd b p.0
    → again s b p.1 upper q ≡ enters a → Leads s (repeat b lower upper) p q (a, suc p.1)
block_leads s b lower upper p q a c w =
    let k = (entry_behind (another p.1 upper) (entry s b q) a).0 w in
    let i = (entry_iff s b q a).0 k.1 in
    let m = closing (s + size b) ∷ opening (s + size b) ∷ opens s b a in
    (closes s b p.0 ++ m, inr (c, i.0, refl, (another_iff p.1 upper).0 k.0, refl), i.1)

-- a turn is a step to that node
pub way_step : (s : ℕ) (e : Expr) (p : Place e) (q : ℕ) (t : Place e) → way s e p q ≡ turns t → Leads s e p q t
way_step s empty p q = absurd p
way_step s (event c) p q = λ t w. absurd (subst⁻¹ Turned w tt)
way_step s (choice l r) (inl p) q = child_turns inl (Leads s (choice l r) (inl p) q) (way s l p q) (way_step s l p q)
way_step s (choice l r) (inr p) q = child_turns inr (Leads s (choice l r) (inr p) q) (way (s + size l) r p q) (way_step (s + size l) r p q)
way_step s (sequence l r) (inl p) q =
    climb_turns inl inr (Leads s (sequence l r) (inl p) q) (way s l p q) (entry (s + size l) r q) (nullable r) (way_step s l p q)
    (λ x a w. right_leads s l r p q a (ends_can_end s l p q x) w)
way_step s (sequence l r) (inr p) q = child_turns inr (Leads s (sequence l r) (inr p) q) (way (s + size l) r p q) (way_step (s + size l) r p q)
way_step s (repeat b lower upper) p q =
    climb_turns (λ t. (t, p.1)) (λ t. (t, suc p.1)) (Leads s (repeat b lower upper) p q) (way s b p.0 q)
    (again s b p.1 upper q) (enough b lower p.1) (λ a w. inner_leads s b lower upper p q a (way_step s b p.0 q a w))
    (λ x a w. block_leads s b lower upper p q a (ends_can_end s b p.0 q x) w)

-- ---- a step is a turn

-- where a reading of the part may end, the way is not stuck
can_end_unstuck : (s : ℕ) (e : Expr) (p : Place e) (q : ℕ) → CanEnd e p → Unstuck (way s e p q)
can_end_unstuck s empty p q c = absurd p
can_end_unstuck s (event d) p q c = tt
can_end_unstuck s (choice l r) (inl p) q c = climb_unstuck inl inl (way s l p q) apart true (can_end_unstuck s l p q c) refl
can_end_unstuck s (choice l r) (inr p) q c = climb_unstuck inr inr (way (s + size l) r p q) apart true (can_end_unstuck (s + size l) r p q c) refl
can_end_unstuck s (sequence l r) (inl p) q c =
    climb_unstuck inl inr (way s l p q) (entry (s + size l) r q) (nullable r) (can_end_unstuck s l p q c.0) c.1
can_end_unstuck s (sequence l r) (inr p) q c = climb_unstuck inr inr (way (s + size l) r p q) apart true (can_end_unstuck (s + size l) r p q c) refl
can_end_unstuck s (repeat b lower upper) p q c =
    climb_unstuck (λ t. (t, p.1)) (λ t. (t, suc p.1)) (way s b p.0 q) (again s b p.1 upper q) (enough b lower p.1)
    (can_end_unstuck s b p.0 q c.0) ((so_leb (low (nullable b) lower) (suc p.1)).1 c.1)

-- a step makes the way turn
pub step_turned : (s : ℕ) (e : Expr) (p t : Place e) (m : List Item) → Step s e p t m → Turned (way s e p (node_of s e t))
step_turned s empty p t m w = absurd p
step_turned s (event c) p t m w = absurd w
step_turned s (choice l r) (inl p) (inl t) m w = climb_turned_below inl inl (way s l p (node_of s l t)) apart true (step_turned s l p t m w)
step_turned s (choice l r) (inl p) (inr t) m w = absurd w
step_turned s (choice l r) (inr p) (inl t) m w = absurd w
step_turned s (choice l r) (inr p) (inr t) m w =
    climb_turned_below inr inr (way (s + size l) r p (node_of (s + size l) r t)) apart true (step_turned (s + size l) r p t m w)
step_turned s (sequence l r) (inl p) (inl t) m w =
    let q = node_of s l t in
    climb_turned_below inl inr (way s l p q) (entry (s + size l) r q) (nullable r) (step_turned s l p t m w)
step_turned s (sequence l r) (inl p) (inr t) m w =
    let q = node_of (s + size l) r t in
    climb_turned_here inl inr (way s l p q) (entry (s + size l) r q) (nullable r) t (can_end_unstuck s l p q w.0)
    ((entry_iff (s + size l) r q t).1 (w.1, refl))
step_turned s (sequence l r) (inr p) (inl t) m w = absurd w
step_turned s (sequence l r) (inr p) (inr t) m w =
    climb_turned_below inr inr (way (s + size l) r p (node_of (s + size l) r t)) apart true (step_turned (s + size l) r p t m w)
step_turned s (repeat b lower upper) p t m (inl w) =
    let q = node_of s b t.0 in
    climb_turned_below (λ a. (a, p.1)) (λ a. (a, suc p.1)) (way s b p.0 q) (again s b p.1 upper q) (enough b lower p.1)
    (step_turned s b p.0 t.0 m w.0)
step_turned s (repeat b lower upper) p t m (inr w) =
    let q = node_of s b t.0 in
    let room = (another_iff p.1 upper).1 (within_le _ (suc t.1) upper (omega (arith, w.2)) w.3) in
    let entered = (entry_behind (another p.1 upper) (entry s b q) t.0).1 (room, (entry_iff s b q t.0).1 (w.1, refl)) in
    climb_turned_here (λ a. (a, p.1)) (λ a. (a, suc p.1)) (way s b p.0 q) (again s b p.1 upper q) (enough b lower p.1)
    t.0 (can_end_unstuck s b p.0 q w.0) entered

-- what turns, turns to a place
pub turned_to : {A : Type 0} (x : Way A) → Turned x → (t : A) × (x ≡ turns t)
turned_to (turns a) h = (a, refl)
turned_to ends h = absurd h
turned_to stuck h = absurd h

-- towards no node of the part, the way ends exactly where a reading may end
pub way_ends : (s : ℕ) (e : Expr) (p : Place e) (q : ℕ) → s + size e ≤ q → (way s e p q ≡ ends) ↔ CanEnd e p
way_ends s e p q h = (ends_can_end s e p q, λ c. unstuck_ends (way s e p q) refl (can_end_unstuck s e p q c))
  where
    unstuck_ends : (x : Way (Place e)) → way s e p q ≡ x → Unstuck x → x ≡ ends
    unstuck_ends (turns t) w u =
        let z = (way_step s e p q t w).2 in
        let below = node_below s e t in
        absurd (omega arith)
    unstuck_ends ends w u = refl
    unstuck_ends stuck w u = absurd u
