-- Trails: any number of steps from one place to another, with the items on the way.
-- A reading is nothing where the part may be empty, or a start, a trail and an end.
use mathlib.Core.Path.{◌≡◌, refl, sym, subst}
use mathlib.Core.Logic.{◌⊎◌, inl, inr, ◌↔◌, ⊎_elim}
use mathlib.Core.Bool.{So}
use mathlib.Core.List.{List, [], ◌∷◌, ◌++◌, append_assoc}
use Prim.Native.Nat.{ℕ, zero, suc, ◌<◌}
use native.Mathlib.Omega.{arith}
use lib.ListN.{length, length-append}
use Rattle.meaning.specs.Expr.{Expr, Bounded}
use Rattle.meaning.specs.Normal.{nullable}
use Rattle.meaning.specs.Reading.{Item, Reading}
use Rattle.meaning.specs.Theory.Places.{Place, item_of, Sound, CanStart, opens, CanEnd, closes, Step, Rest}
use Rattle.meaning.proofs.Places.Steps.{Begun, nothing, first, reading_begun, begun_reading, Goes, ends, steps, rest_goes, goes_rest, start_sound, step_sound}

-- steps from the first place to the second; the items are those after the first place's event, up to and including the second's
pub data Trail (s : ℕ) (e : Expr) : Place e → Place e → List Item → Type 0 where
  stay : (p : Place e) → Trail s e p p []
  step : {p q r : Place e} (m t : List Item) → Step s e p q m → Trail s e q r t → Trail s e p r (m ++ (item_of s e q ∷ t))

-- a trail leads from a sound place to a sound place
pub trail_sound : (s : ℕ) (e : Expr) → Bounded e → (p q : Place e) (t : List Item) → Sound e p → Trail s e p q t → Sound e q
trail_sound s e h p q t k (stay r) = k
trail_sound s e h p q t k (step {q = r} m u g w) = trail_sound s e h r q u (step_sound s e h p r m k g) w

-- a trail from the place to one that can end, and its end
pub data Ending (s : ℕ) (e : Expr) (p : Place e) : List Item → Type 0 where
  ending : (q : Place e) (t : List Item) → Trail s e p q t → CanEnd e q → Ending s e p (t ++ closes s e q)

-- a step before it
step_ending : (s : ℕ) (e : Expr) (p q : Place e) (m y : List Item) → Step s e p q m → Ending s e q y → Ending s e p (m ++ (item_of s e q ∷ y))
step_ending s e p q m y g (ending o t w c) =
    subst (Ending s e p) (append_assoc m (item_of s e q ∷ t) (closes s e o)) (ending o (m ++ (item_of s e q ∷ t)) (step m t g w) c)

-- the same as `rest_ending`, below, for fewer items than n
rest_ending_below : (s : ℕ) (e : Expr) → Bounded e → (n : ℕ) (p : Place e) (y : List Item) → length y < n → Rest s e p y → Ending s e p y
rest_ending_below s e h zero p y below k = absurd (omega arith)
rest_ending_below s e h (suc n) p y below k = go (rest_ending_below s e h n) y below (rest_goes s e h p y k)
  where
    go : ((q : Place e) (z : List Item) → length z < n → Rest s e q z → Ending s e q z)
        → (x : List Item) → length x < suc n → Goes s e p x → Ending s e p x
    go on x b (ends c) = ending p [] (stay p) c
    go on x b (steps q m z g w) = step_ending s e p q m z g (on q z (omega (arith, length-append m (item_of s e q ∷ z))) w)

-- what completes a reading from a place is a trail and its end
pub rest_ending : (s : ℕ) (e : Expr) → Bounded e → (p : Place e) (y : List Item) → Rest s e p y → Ending s e p y
rest_ending s e h p y k = rest_ending_below s e h (suc (length y)) p y (omega arith) k

-- a trail, and what completes a reading from its last place, complete one from its first
pub trail_rest : (s : ℕ) (e : Expr) → Bounded e → (p q : Place e) (t y : List Item) → Sound e p → Trail s e p q t → Rest s e q y
    → Rest s e p (t ++ y)
trail_rest s e h p q t y k (stay o) r = r
trail_rest s e h p q t y k (step {q = o} m u g w) r =
    subst (Rest s e p) (sym (append_assoc m (item_of s e o ∷ u) y))
    (goes_rest s e h p k _ (steps o m (u ++ y) g (trail_rest s e h o q u y (step_sound s e h p o m k g) w r)))

-- a trail and its end complete a reading from a sound place
pub ending_rest : (s : ℕ) (e : Expr) → Bounded e → (p : Place e) (y : List Item) → Sound e p → Ending s e p y → Rest s e p y
ending_rest s e h p y k (ending q t w c) =
    trail_rest s e h p q t (closes s e q) k w (goes_rest s e h q (trail_sound s e h p q t k w) _ (ends c))

-- a start, a trail and an end
abbrev pub StartToEnd : (s : ℕ) (e : Expr) → List Item → Type 0
StartToEnd s e x =
    (p q : Place e) × (t : List Item) × CanStart e p × Trail s e p q t × CanEnd e q
    × (x ≡ opens s e p ++ (item_of s e p ∷ (t ++ closes s e q)))

-- a reading is nothing where the part may be empty, or a start, a trail and an end
pub reading_iff_trail : (s : ℕ) (e : Expr) → Bounded e → (x : List Item)
    → Reading s e x ↔ ((So (nullable e) × (x ≡ [])) ⊎ StartToEnd s e x)
reading_iff_trail s e h x = (λ r. forth x (reading_begun s e h x r), ⊎_elim (λ n. rw n.1 (begun_reading s e h [] (nothing n.0))) back)
  where
    start : (p : Place e) (y : List Item) → CanStart e p → Ending s e p y → StartToEnd s e (opens s e p ++ (item_of s e p ∷ y))
    start p y c (ending q t w k) = (p, q, t, c, w, k, refl)

    forth : (y : List Item) → Begun s e y → (So (nullable e) × (y ≡ [])) ⊎ StartToEnd s e y
    forth y (nothing n) = inl (n, refl)
    forth y (first p z c k) = inr (start p z c (rest_ending s e h p z k))

    back : StartToEnd s e x → Reading s e x
    back w =
        let rest = ending_rest s e h w.0 _ (start_sound e h w.0 w.3) (ending w.1 w.2 w.4 w.5) in
        rw w.6 (begun_reading s e h _ (first w.0 _ w.3 rest))
