-- First and after, as worked out, are what places can start with, and where they can both end and go on.
use mathlib.Core.Path.{◌≡◌, refl, sym, subst}
use mathlib.Core.Logic.Or
use mathlib.Core.Logic.{◌⊎◌, inl, inr, ⊎_elim, ⊎_map}
use mathlib.Core.Bool.{So, and-eq-true_iff, or-eq-true_iff}
use mathlib.Core.List.{List}
use Prim.Native.Nat.{ℕ, zero, suc, pred, ◌+◌, ◌≤◌}
use native.Mathlib.Omega.{arith}
use Rattle.meaning.specs.Expr.{Expr, empty, event, choice, sequence, repeat, size, Upper, Within, Bounded}
use Rattle.meaning.specs.Normal.{nullable, low, is_zero}
use Rattle.meaning.specs.Reading.{Item}
use Rattle.meaning.specs.Sets.{First, After, Starts, Flexible}
use Rattle.meaning.specs.Theory.Places.{Place, code_at, Sound, CanStart, CanEnd, Step}
use Rattle.meaning.proofs.General.Facts.{within_le, within_max, low_le}

-- a place that can start has a code of first
pub start_first : (e : Expr) (q : Place e) → CanStart e q → First e (code_at e q)
start_first empty q c = absurd c
start_first (event d) q c = refl
start_first (choice l r) (inl q) c = inl (start_first l q c)
start_first (choice l r) (inr q) c = inr (start_first r q c)
start_first (sequence l r) (inl q) c = inl (start_first l q c)
start_first (sequence l r) (inr q) c = inr (c.0, start_first r q c.1)
start_first (repeat b lower upper) q c = start_first b q.0 c.0

-- a code of first is that of a place that can start
pub first_start : (e : Expr) → Bounded e → (c : ℕ) → First e c → (q : Place e) × CanStart e q × (code_at e q ≡ c)
first_start empty h c f = absurd f
first_start (event d) h c f = (tt, tt, sym f)
first_start (choice l r) h c (inl f) = let t = first_start l h.0 c f in (inl t.0, t.1, t.2)
first_start (choice l r) h c (inr f) = let t = first_start r h.1 c f in (inr t.0, t.1, t.2)
first_start (sequence l r) h c (inl f) = let t = first_start l h.0 c f in (inl t.0, t.1, t.2)
first_start (sequence l r) h c (inr f) = let t = first_start r h.1 c f.1 in (inr t.0, (f.0, t.1), t.2)
first_start (repeat b lower upper) h c f = let t = first_start b h.0 c f in ((t.0, zero), (t.1, refl), t.2)

-- a part has the empty word or an event to begin with
nullable_or_starts : (e : Expr) → So (nullable e) ⊎ Starts e
nullable_or_starts empty = inl refl
nullable_or_starts (event c) = inr (c, refl)
nullable_or_starts (choice l r) =
    ⊎_map (λ n. (or-eq-true_iff (nullable l) (nullable r)).1 (Or.inl n)) (λ t. (t.0, inl t.1)) (nullable_or_starts l)
nullable_or_starts (sequence l r) =
    ⊎_elim (λ n. ⊎_map (λ m. (and-eq-true_iff (nullable l) (nullable r)).1 (n, m)) (λ t. (t.0, inr (n, t.1))) (nullable_or_starts r))
    (λ t. inr (t.0, inl t.1))
    (nullable_or_starts l)
nullable_or_starts (repeat b lower upper) = ⊎_map (λ n. (or-eq-true_iff (is_zero lower) (nullable b)).1 (Or.inr n)) (λ t. t) (nullable_or_starts b)

-- a part with a place has an event to begin with
place_starts : (e : Expr) → Place e → Starts e
place_starts empty p = absurd p
place_starts (event c) p = (c, refl)
place_starts (choice l r) (inl p) = let t = place_starts l p in (t.0, inl t.1)
place_starts (choice l r) (inr p) = let t = place_starts r p in (t.0, inr t.1)
place_starts (sequence l r) (inl p) = let t = place_starts l p in (t.0, inl t.1)
place_starts (sequence l r) (inr p) =
    let t = place_starts r p in ⊎_elim (λ n. (t.0, inr (n, t.1))) (λ z. (z.0, inl z.1)) (nullable_or_starts l)
place_starts (repeat b lower upper) p = place_starts b p.0

-- a repeat that may end after some block, and may begin a further one there, is flexible
flexible : (upper : Upper) (lower k : ℕ) → lower ≤ suc k → Within (suc (suc k)) upper → Flexible lower upper
flexible upper lower k h w = (within_le _ _ upper (omega arith) w, within_le _ _ upper (omega arith) w)

-- where a place can end and can go on to another, the code of that one is in after
pub end_step_after : (s : ℕ) (e : Expr) → Bounded e → (p q : Place e) (m : List Item) → Sound e p → CanEnd e p → Step s e p q m → After e (code_at e q)
end_step_after s empty h p q m k c t = absurd t
end_step_after s (event d) h p q m k c t = absurd t
end_step_after s (choice l r) h (inl p) (inl q) m k c t = inl (end_step_after s l h.0 p q m k c t)
end_step_after s (choice l r) h (inl p) (inr q) m k c t = absurd t
end_step_after s (choice l r) h (inr p) (inl q) m k c t = absurd t
end_step_after s (choice l r) h (inr p) (inr q) m k c t = inr (end_step_after (s + size l) r h.1 p q m k c t)
end_step_after s (sequence l r) h (inl p) (inl q) m k c t = inr (c.1, inl (end_step_after s l h.0 p q m k c.0 t))
end_step_after s (sequence l r) h (inl p) (inr q) m k c t = inr (c.1, inr (place_starts l p, start_first r q t.1))
end_step_after s (sequence l r) h (inr p) (inl q) m k c t = absurd t
end_step_after s (sequence l r) h (inr p) (inr q) m k c t = inl (end_step_after (s + size l) r h.1 p q m k c t)
end_step_after s (repeat b lower upper) h p q m k c (inl t) = inl (end_step_after s b h.0 p.0 q.0 m k.0 c.0 t.0)
end_step_after s (repeat b lower upper) h p q m k c (inr t) =
    inr (flexible upper (low (nullable b) lower) p.1 c.1 (subst (λ j. Within (suc j) upper) t.2 t.3), start_first b q.0 t.1)

-- a place that can end, and can go on with the code
pub record EndsAndGoes (s : ℕ) (e : Expr) (c : ℕ) : Type 0 where
  pub here : Place e
  pub next : Place e
  pub marks : List Item
  pub sound : Sound e here
  pub can_end : CanEnd e here
  pub step : Step s e here next marks
  pub code : code_at e next ≡ c

-- a sound place that can end
abbrev EndsHere : Expr → Type 0
EndsHere e = (p : Place e) × Sound e p × CanEnd e p

-- the upper bound allows the larger of 1 and the normal-form lower bound, the least number of blocks after which a repeat can end
full_within : (upper : Upper) (n lower : ℕ) → n ≤ lower → Within lower upper → Within 1 upper → Within (suc (pred n)) upper
full_within upper n lower k h g = within_le _ _ upper (omega arith) (within_max 1 lower upper g h)

-- where the repeat is flexible, it allows one block more
flexible_within : (upper : Upper) (n : ℕ) → Flexible n upper → Within (suc (suc (pred n))) upper
flexible_within upper n h = within_le _ _ upper (omega arith) (within_max 2 (n + 1) upper h.0 h.1)

-- a part that has an event has a place where it can end
some_end : (e : Expr) → Bounded e → (c : ℕ) → First e c → EndsHere e
some_end empty h c f = absurd f
some_end (event d) h c f = (tt, tt, tt)
some_end (choice l r) h c (inl f) = let p = some_end l h.0 c f in (inl p.0, p.1, p.2)
some_end (choice l r) h c (inr f) = let p = some_end r h.1 c f in (inr p.0, p.1, p.2)
some_end (sequence l r) h c (inl f) =
    let p = some_end l h.0 c f in
    ⊎_elim (λ n. (inl p.0, p.1, (p.2, n)))
    (λ t. let q = some_end r h.1 t.0 t.1 in (inr q.0, q.1, q.2))
    (nullable_or_starts r)
some_end (sequence l r) h c (inr f) = let p = some_end r h.1 c f.1 in (inr p.0, p.1, p.2)
some_end (repeat b lower upper) h c f =
    let n = low (nullable b) lower in
    let p = some_end b h.0 c f in
    ((p.0, pred n), (p.1, full_within upper n lower (low_le (nullable b) lower) h.1 h.2), (p.2, omega arith))

-- a code of after is that of a place to which a place that can end can go on
pub after_ends_and_goes : (s : ℕ) (e : Expr) → Bounded e → (c : ℕ) → After e c → EndsAndGoes s e c
after_ends_and_goes s empty h c a = absurd a
after_ends_and_goes s (event d) h c a = absurd a
after_ends_and_goes s (choice l r) h c (inl a) =
    let g = after_ends_and_goes s l h.0 c a in
    record { here = inl g.here; next = inl g.next; marks = g.marks; sound = g.sound; can_end = g.can_end; step = g.step; code = g.code }
after_ends_and_goes s (choice l r) h c (inr a) =
    let g = after_ends_and_goes (s + size l) r h.1 c a in
    record { here = inr g.here; next = inr g.next; marks = g.marks; sound = g.sound; can_end = g.can_end; step = g.step; code = g.code }
after_ends_and_goes s (sequence l r) h c (inl a) =
    let g = after_ends_and_goes (s + size l) r h.1 c a in
    record { here = inr g.here; next = inr g.next; marks = g.marks; sound = g.sound; can_end = g.can_end; step = g.step; code = g.code }
after_ends_and_goes s (sequence l r) h c (inr a) = ⊎_elim (λ z. within (after_ends_and_goes s l h.0 c z)) between a.1
  where
    within : EndsAndGoes s l c → EndsAndGoes s (sequence l r) c
    within g =
        record { here = inl g.here; next = inl g.next; marks = g.marks; sound = g.sound; can_end = (g.can_end, a.0); step = g.step; code = g.code }

    between : Starts l × First r c → EndsAndGoes s (sequence l r) c
    between z =
        let p = some_end l h.0 z.0.0 z.0.1 in
        let q = first_start r h.1 c z.1 in
        record { here = inl p.0; next = inr q.0; marks = _; sound = p.1; can_end = (p.2, a.0); step = (p.2, q.1, refl); code = q.2 }
after_ends_and_goes s (repeat b lower upper) h c (inl a) =
    let n = low (nullable b) lower in
    let g = after_ends_and_goes s b h.0 c a in
    record {
      here = (g.here, pred n);
      next = (g.next, pred n);
      marks = g.marks;
      sound = (g.sound, full_within upper n lower (low_le (nullable b) lower) h.1 h.2);
      can_end = (g.can_end, omega arith);
      step = inl (g.step, refl);
      code = g.code;
    }
after_ends_and_goes s (repeat b lower upper) h c (inr a) =
    let n = low (nullable b) lower in
    let p = some_end b h.0 c a.1 in
    let q = first_start b h.0 c a.1 in
    record {
      here = (p.0, pred n);
      next = (q.0, suc (pred n));
      marks = _;
      sound = (p.1, full_within upper n lower (low_le (nullable b) lower) h.1 h.2);
      can_end = (p.2, omega arith);
      step = inr (p.2, q.1, refl, flexible_within upper n a.0, refl);
      code = q.2;
    }
