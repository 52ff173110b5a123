-- The bytes of a state are reached exactly if a run can stand where they say. Assumes nothing.
use mathlib.Core.Path.{◌≡◌, refl, sym, ap, ap₂, subst, ◌∙◌}
use mathlib.Core.Logic.Iff
use mathlib.Core.Logic.{◌↔◌, inl, inr, ⊎_elim}
use mathlib.Core.List.{List, [], ◌∷◌, ◌++◌}
use Prim.Native.Nat.{ℕ, zero, suc, ◌+◌, ◌-◌, ◌≤◌, ◌<◌}
use native.Mathlib.Omega.{arith}
use lib.ListN.{length, get_or, replicate, length-append, length-take, length-replicate, get_or-eq_default, get_or-append}
use lib.Seq.{ext_get_or, get_or-take, get_or-append-add}
use Rattle.meaning.specs.Expr.{Expr, empty, event, choice, sequence, repeat, size, Bounded}
use Rattle.meaning.specs.Bytes.{in_twos}
use Rattle.meaning.specs.State.{padded, state_bytes}
use Rattle.meaning.specs.Promises.{NoneReaches}
use Rattle.meaning.specs.Theory.Places.{Place}
use Rattle.meaning.specs.Theory.Counts.{Clear, Held, Marked, repeats, zeros, place_counts, start_state, Small}
use Rattle.meaning.specs.Theory.Spots.{Spot, start, behind, Safe}
use Rattle.meaning.specs.Theory.Runs.{spot_state}
use Rattle.meaning.proofs.General.Twos.{twos_length}
use Rattle.meaning.proofs.State.StateBytes.{bytes_reached_iff, zeros_all, zeros_long, place_long, start_counts, spot_long, numbers_narrow}
use Rattle.states.specs.StateBytes.{Decoded}
use Rattle.states.specs.Standing.{AtSpot, CanStand}
use Rattle.states.proofs.StateBytes.{below_or_from, decoded_unique}

-- ---- counters that agree with a list

-- from rank k on stand the numbers of the list
abbrev Agrees : List ℕ → ℕ → List ℕ → Type 0
Agrees counts k l = (j : ℕ) → j < length l → get_or counts (k + j) 0 ≡ get_or l j 0

module _ (counts : List ℕ) where
  agrees_none : (k : ℕ) → Agrees counts k []
  agrees_none k j h = absurd (omega arith)

  agrees_one : (k v : ℕ) → (get_or counts k 0 ≡ v) ↔ Agrees counts k (v ∷ [])
  agrees_one k v = (forth, λ f. subst (λ (i : ℕ). get_or counts i 0 ≡ v) (omega arith) (f 0 (omega arith)))
    where
      forth : get_or counts k 0 ≡ v → Agrees counts k (v ∷ [])
      forth e zero h = subst (λ (i : ℕ). get_or counts i 0 ≡ v) (omega arith) e
      forth e (suc j) h = absurd (omega arith)

  agrees_append : (k m : ℕ) (x y : List ℕ) → length x ≡ m → (Agrees counts k x × Agrees counts (k + m) y) ↔ Agrees counts k (x ++ y)
  agrees_append k m x y e = (λ t. forth t.0 t.1, λ f. (front f, back f))
    where
      far : (j : ℕ) → length x ≤ j → get_or (x ++ y) j 0 ≡ get_or y (j - length x) 0
      far j h = let there : length x + (j - length x) ≡ j = omega arith in ap (λ (i : ℕ). get_or (x ++ y) i 0) (sym there) ∙ get_or-append-add x y (j - length x) 0

      forth : Agrees counts k x → Agrees counts (k + m) y → Agrees counts k (x ++ y)
      forth f g j h =
          ⊎_elim (λ l. f j l ∙ sym (get_or-append x y 0 j l))
          (λ l.
          let there : k + m + (j - length x) ≡ k + j = omega arith in
          ap (λ (i : ℕ). get_or counts i 0) (sym there) ∙ g (j - length x) (omega (arith, length-append x y)) ∙ sym (far j l))
          (below_or_from j (length x))

      front : Agrees counts k (x ++ y) → Agrees counts k x
      front f j h = f j (omega (arith, length-append x y)) ∙ get_or-append x y 0 j h

      back : Agrees counts k (x ++ y) → Agrees counts (k + m) y
      back f j h =
          let there : k + (length x + j) ≡ k + m + j = omega arith in
          ap (λ (i : ℕ). get_or counts i 0) (sym there) ∙ f (length x + j) (omega (arith, length-append x y)) ∙ get_or-append-add x y j 0

-- ---- the counters of a place

zero_at : (m i : ℕ) → ◌≡◌ {A = ℕ} (get_or (replicate m 0) i 0) 0
zero_at zero i = refl
zero_at (suc m) zero = refl
zero_at (suc m) (suc i) = zero_at m i

zeros_at : (e : Expr) (i : ℕ) → get_or (zeros e) i 0 ≡ 0
zeros_at e i = ap (λ (x : List ℕ). get_or x i 0) (zeros_all e) ∙ zero_at (repeats e) i

module _ (counts : List ℕ) where
  clear_iff : (k : ℕ) (e : Expr) → Clear counts k (repeats e) ↔ Agrees counts k (zeros e)
  clear_iff k e = (
    λ z j h. z (k + j) (omega arith) (omega (arith, zeros_long e)) ∙ sym (zeros_at e j),
    λ f j a b.
        let here : k + (j - k) ≡ j = omega arith in
        ap (λ (i : ℕ). get_or counts i 0) (sym here) ∙ f (j - k) (omega (arith, zeros_long e)) ∙ zeros_at e (j - k),
  )

  held_iff : (k : ℕ) (e : Expr) (p : Place e) → Held counts k e p ↔ Agrees counts k (place_counts e p)
  held_iff k empty p = absurd p
  held_iff k (event c) p = (λ t. agrees_none counts k, λ f. tt)
  held_iff k (choice l r) (inl p) =
      Iff.trans (Iff.and (held_iff k l p) (clear_iff (k + repeats l) r)) (agrees_append counts k (repeats l) (place_counts l p) (zeros r) (place_long l p))
  held_iff k (choice l r) (inr p) =
      Iff.trans (Iff.and (clear_iff k l) (held_iff (k + repeats l) r p)) (agrees_append counts k (repeats l) (zeros l) (place_counts r p) (zeros_long l))
  held_iff k (sequence l r) (inl p) =
      Iff.trans (Iff.and (held_iff k l p) (clear_iff (k + repeats l) r)) (agrees_append counts k (repeats l) (place_counts l p) (zeros r) (place_long l p))
  held_iff k (sequence l r) (inr p) =
      Iff.trans (Iff.and (clear_iff k l) (held_iff (k + repeats l) r p)) (agrees_append counts k (repeats l) (zeros l) (place_counts r p) (zeros_long l))
  held_iff k (repeat b lower upper) p =
      Iff.trans (Iff.and (held_iff k b p.0) (agrees_one counts (k + repeats b) _))
      (agrees_append counts k (repeats b) (place_counts b p.0) _ (place_long b p.0))

-- ---- padded to 32 counters

padded-length : (l : List ℕ) → length (padded l) ≡ 32
padded-length l = length-take 32 (l ++ replicate 32 0) ∙ omega (arith, length-append l (replicate 32 0), length-replicate {A = ℕ} 32 0)

-- past its end a list has 0 anyway
zeros_behind : (l : List ℕ) (m i : ℕ) → get_or (l ++ replicate m 0) i 0 ≡ get_or l i 0
zeros_behind [] m i = zero_at m i
zeros_behind (n ∷ l) m zero = refl
zeros_behind (n ∷ l) m (suc i) = zeros_behind l m i

padded_at : (l : List ℕ) → length l ≤ 32 → (i : ℕ) → get_or (padded l) i 0 ≡ get_or l i 0
padded_at l h i = ⊎_elim (λ k. get_or-take 32 (l ++ replicate 32 0) i 0 k ∙ zeros_behind l 32 i) past (below_or_from i 32)
  where
    past : 32 ≤ i → get_or (padded l) i 0 ≡ get_or l i 0
    past k = get_or-eq_default (padded l) 0 {n = i} (omega (arith, padded-length l)) ∙ sym (get_or-eq_default l 0 {n = i} (omega arith))

-- 32 counters are the padded list exactly if they agree with it everywhere
padded_iff : (counts l : List ℕ) → length counts ≡ 32 → length l ≤ 32 → ((i : ℕ) → get_or counts i 0 ≡ get_or l i 0) ↔ (counts ≡ padded l)
padded_iff counts l long h = (
  λ f. ext_get_or 0 counts (padded l) (long ∙ sym (padded-length l)) (λ i k. f i ∙ sym (padded_at l h i)),
  λ e i. ap (λ (x : List ℕ). get_or x i 0) e ∙ padded_at l h i,
)

-- the counters are those of the place exactly if they agree with its list everywhere
marked_iff : (counts : List ℕ) (e : Expr) (p : Place e) → length counts ≡ 32 → Marked counts e p ↔ ((i : ℕ) → get_or counts i 0 ≡ get_or (place_counts e p) i 0)
marked_iff counts e p long = (forth, back)
  where
    forth : Marked counts e p → (i : ℕ) → get_or counts i 0 ≡ get_or (place_counts e p) i 0
    forth w i =
        ⊎_elim (λ h. ap (λ (j : ℕ). get_or counts j 0) (omega arith) ∙ (held_iff counts 0 e p).0 w.holds i h)
        (λ h. w.past i (omega (arith, place_long e p)) ∙ sym (get_or-eq_default (place_counts e p) 0 {n = i} h))
        (below_or_from i (length (place_counts e p)))

    back : ((i : ℕ) → get_or counts i 0 ≡ get_or (place_counts e p) i 0) → Marked counts e p
    back f = record {
      holds = (held_iff counts 0 e p).1 (λ j h. ap (λ (i : ℕ). get_or counts i 0) (omega arith) ∙ f j);
      past = λ j h. f j ∙ get_or-eq_default (place_counts e p) 0 {n = j} (omega (arith, place_long e p));
      long = long;
    }

-- ---- the state at a spot

-- the node and the counters are those of the spot exactly if they are those of its state
spot_iff : (e : Expr) (k : Spot e) (node : ℕ) (counts : List ℕ) → length counts ≡ 32
    → AtSpot e k node counts ↔ ((node ≡ (spot_state e k).node) × ((i : ℕ) → get_or counts i 0 ≡ get_or (spot_state e k).counts i 0))
spot_iff e start node counts long =
    let none : (i : ℕ) → get_or (start_state e).counts i 0 ≡ 0 = λ i. ap (λ (x : List ℕ). get_or x i 0) (start_counts e) ∙ zeros_at e i in (
      λ t. (t.0, λ i. t.1.none i ∙ sym (none i)),
      λ t. (t.0, record { none = λ i. t.1 i ∙ none i; long = long }),
    )
spot_iff e (behind p) node counts long = Iff.and Iff.rfl (marked_iff counts e p long)

-- so the bytes of the node and the counters are those of the state
pub stood_bytes : (e : Expr) (k : Spot e) (node : ℕ) (counts : List ℕ) → repeats e ≤ 32 → length counts ≡ 32 → AtSpot e k node counts
    → in_twos (node ∷ counts) ≡ state_bytes (spot_state e k)
stood_bytes e k node counts few long t =
    let s = (spot_iff e k node counts long).0 t in
    ap₂ (λ (n : ℕ) (c : List ℕ). in_twos (n ∷ c)) s.0 ((padded_iff counts (spot_state e k).counts long (omega (arith, spot_long e k))).0 s.1)

-- what the bytes of a spot's state are decoded to is at the spot
bytes_spot : (e : Expr) (k : Spot e) (bytes : List ℕ) (node : ℕ) (counts : List ℕ) → Small e → size e < 65536 → repeats e ≤ 32 → Safe e k
    → Decoded bytes node counts → bytes ≡ state_bytes (spot_state e k) → AtSpot e k node counts
bytes_spot e k bytes node counts small short few s d f =
    let counters = (spot_state e k).counts in
    let same = decoded_unique d (spot_state e k).node (padded counters) (numbers_narrow e small short k s) f in
    (spot_iff e k node counts d.long).1 (same.0, (padded_iff counts counters d.long (omega (arith, spot_long e k))).1 same.1)

-- ---- bytes that no run reaches

-- a state has 66 bytes
pub other_length_unreached : (e : Expr) (bytes : List ℕ) → ¬ (length bytes ≡ 66) → NoneReaches e bytes
other_length_unreached e bytes h u t =
    let z = t.0 in
    let numbers = z.node ∷ padded z.counts in
    h (ap {B = ℕ} length t.2 ∙ omega (arith, twos_length numbers, padded-length z.counts))

-- a run that reaches the bytes stands at a spot that has the node and the counters
pub not_stand_unreached : (e : Expr) → Bounded e → Small e → size e < 65536 → repeats e ≤ 32
    → {bytes : List ℕ} {node : ℕ} {counts : List ℕ} → Decoded bytes node counts
    → ¬ CanStand e node counts → NoneReaches e bytes
not_stand_unreached e bounded small short few {bytes} {node} {counts} d h u r =
    let t = (bytes_reached_iff e bounded bytes).0 (u, r) in
    h (t.0, t.1, bytes_spot e t.0 bytes node counts small short few t.1 d t.2)
