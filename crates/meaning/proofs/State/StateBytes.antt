-- The bytes of a state: those that runs reach are those of the spots, and with a file's bounds they determine the state.
use mathlib.Core.Path.{◌≡◌, refl, sym, ap, ap₂, ◌∙◌, subst, subst⁻¹}
use mathlib.Core.Logic.{◌↔◌, inl, inr, ⊎_elim}
use mathlib.Core.Bool.{Bool, true, false, cond}
use mathlib.Core.List.{List, [], ◌∷◌, ◌++◌, head-eq_of_cons-eq, tail-eq_of_cons-eq}
use Prim.Native.Nat.{ℕ, ◌+◌, ◌≤◌, ◌<◌}
use native.Mathlib.Omega.{arith}
use lib.Dec.{eqb}
use lib.ListN.{length, take, replicate, length-append, length-replicate, replicate-append-replicate}
use lib.Seq.{take-take, take-append_seam}
use Rattle.meaning.specs.Expr.{Expr, empty, event, choice, sequence, repeat, size, Upper, upto, endless, Bounded}
use Rattle.meaning.specs.Normal.{nullable, low}
use Rattle.meaning.specs.Bytes.{in_twos}
use Rattle.meaning.specs.Node.{Node, node, InTable, empty_line, event_line, choice_line, sequence_line, repeat_line, Stands}
use Rattle.meaning.specs.File.{Holds, count, node_at}
use Rattle.meaning.specs.State.{padded, state_bytes, Reaches, ReachesBytes}
use Rattle.meaning.specs.Theory.Counts.{Narrow, repeats, zeros, place_counts, start_state, most, Small}
use Rattle.meaning.specs.Theory.Places.{Place, Sound}
use Rattle.meaning.specs.Theory.Spots.{Spot, start, behind, Safe}
use Rattle.meaning.specs.Theory.Runs.{spot_state}
use Rattle.meaning.proofs.File.Ranks.{repeats_all}
use Rattle.meaning.proofs.General.Twos.{narrow_append, narrow_take, narrow_zeros, narrow_unique}
use Rattle.meaning.proofs.General.Facts.{low_le}
use Rattle.meaning.proofs.Places.Marks.{node_below}
use Rattle.meaning.proofs.File.Files.{holds_bounded}
use Rattle.meaning.proofs.State.Stays.{counters-zeros}
use Rattle.meaning.proofs.State.States.{stop_within}
use Rattle.meaning.proofs.State.Runs.{RunAt, reaches_run, some_run}

-- ---- the bytes that runs reach

-- some run reaches the bytes exactly if they are those of a safe spot's state
pub bytes_reached_iff : (e : Expr) → Bounded e → (bytes : List ℕ)
    → ((w : List ℕ) × ReachesBytes e w bytes) ↔ ((k : Spot e) × Safe e k × (bytes ≡ state_bytes (spot_state e k)))
bytes_reached_iff e h bytes = (
  λ t.
      let z = t.1.0 in
      let at = reaches_run e h t.0 z t.1.1 in
      (at.0, at.1.safe, t.1.2 ∙ ap state_bytes (sym at.2)),
  λ t. let w = some_run e h t.0 t.1 in (w.0, (spot_state e t.0, w.1.there, t.2)),
)

-- ---- counters, filled up to 32

-- up to 32 counters are determined by what they are filled up to
padded_unique : (x y : List ℕ) → length x ≡ length y → length x ≤ 32 → padded x ≡ padded y → x ≡ y
padded_unique x y l few e = sym (front x few) ∙ ap (take (length x)) e ∙ ap (λ (n : ℕ). take n (padded y)) l ∙ front y (omega arith)
  where
    front : (z : List ℕ) → length z ≤ 32 → take (length z) (padded z) ≡ z
    front z h = take-take (length z) 32 (z ++ replicate 32 0) h ∙ take-append_seam z (replicate 32 0)

-- ---- how many counters there are, and how large they are

-- a zero for each repeat
pub zeros_all : (e : Expr) → zeros e ≡ replicate (repeats e) 0
zeros_all empty = refl
zeros_all (event c) = refl
zeros_all (choice l r) = ap₂ ◌++◌ (zeros_all l) (zeros_all r) ∙ replicate-append-replicate (repeats l) (repeats r) 0
zeros_all (sequence l r) = ap₂ ◌++◌ (zeros_all l) (zeros_all r) ∙ replicate-append-replicate (repeats l) (repeats r) 0
zeros_all (repeat b lower upper) = ap (λ (x : List ℕ). x ++ (0 ∷ [])) (zeros_all b) ∙ replicate-append-replicate (repeats b) 1 0

pub zeros_long : (e : Expr) → length (zeros e) ≡ repeats e
zeros_long e = ap {B = ℕ} length (zeros_all e) ∙ length-replicate (repeats e) 0

-- and a counter of a place
pub place_long : (e : Expr) (p : Place e) → length (place_counts e p) ≡ repeats e
place_long empty p = absurd p
place_long (event c) p = refl
place_long (choice l r) (inl p) = omega (arith, length-append (place_counts l p) (zeros r), place_long l p, zeros_long r)
place_long (choice l r) (inr p) = omega (arith, length-append (zeros l) (place_counts r p), zeros_long l, place_long r p)
place_long (sequence l r) (inl p) = omega (arith, length-append (place_counts l p) (zeros r), place_long l p, zeros_long r)
place_long (sequence l r) (inr p) = omega (arith, length-append (zeros l) (place_counts r p), zeros_long l, place_long r p)
place_long (repeat b lower upper) p = length-append (place_counts b p.0) _ ∙ ap (λ (k : ℕ). k + 1) (place_long b p.0)

-- zeros are filled up to 32
padded-zeros : (m : ℕ) → padded (replicate m 0) ≡ replicate 32 0
padded-zeros m =
    let swapped : m + 32 ≡ 32 + m = omega arith in
    let here = replicate-append-replicate {A = ℕ} m 32 0 in
    let there = replicate-append-replicate {A = ℕ} 32 m 0 in
    ap (take 32) (here ∙ ap (λ (n : ℕ). replicate n 0) swapped ∙ sym there) ∙ take-append_seam (replicate 32 0) (replicate m 0)

-- the start state is all zero
pub start_counts : (e : Expr) → (start_state e).counts ≡ zeros e
start_counts e = counters-zeros (λ i. 0) 0 e (λ i l k. refl)

pub start_all_zero : (e : Expr) → state_bytes (start_state e) ≡ replicate 66 0
start_all_zero e = ap (λ (x : List ℕ). in_twos (0 ∷ x)) (ap padded (start_counts e ∙ zeros_all e) ∙ padded-zeros (repeats e))

-- zeros fit
zeros_narrow : (e : Expr) → Narrow (zeros e)
zeros_narrow e = subst⁻¹ Narrow (zeros_all e) (narrow_zeros (repeats e))

-- so the counters of a sound place fit
place_narrow : (e : Expr) (p : Place e) → Sound e p → Small e → Narrow (place_counts e p)
place_narrow empty p k s = absurd p
place_narrow (event c) p k s = tt
place_narrow (choice l r) (inl p) k s = narrow_append (place_counts l p) (zeros r) (place_narrow l p k s.0) (zeros_narrow r)
place_narrow (choice l r) (inr p) k s = narrow_append (zeros l) (place_counts r p) (zeros_narrow l) (place_narrow r p k s.1)
place_narrow (sequence l r) (inl p) k s = narrow_append (place_counts l p) (zeros r) (place_narrow l p k s.0) (zeros_narrow r)
place_narrow (sequence l r) (inr p) k s = narrow_append (zeros l) (place_counts r p) (zeros_narrow l) (place_narrow r p k s.1)
place_narrow (repeat b lower upper) p k s =
    let up = (stop_within (low (nullable b) lower) p.1 upper k.1).1 in
    narrow_append (place_counts b p.0) _ (place_narrow b p.0 k.0 s.0) (omega (arith, s.1), tt)

-- ---- a part whose nodes keep to the table

-- the most that a repeat of the table counts
line_small : {k c x lower u : ℕ} (b none : Bool) → InTable (node k c x lower u) → k ≡ 4 → most (low b lower) (cond none endless (upto u)) < 65536
line_small b none empty_line h = absurd (omega arith)
line_small b none (event_line c l) h = absurd (omega arith)
line_small b none (choice_line l r) h = absurd (omega arith)
line_small b none (sequence_line l r) h = absurd (omega arith)
line_small b true (repeat_line x lower u few written l) h = omega (arith, low_le b lower)
line_small b false (repeat_line x lower u few written l) h = ⊎_elim (λ w. omega (arith, w.1)) (λ w. omega arith) written

-- so every counter of a part that stands in the table fits
pub table_small : (g : ℕ → Node) (n s : ℕ) (e : Expr) → ((i : ℕ) → i < n → InTable (g i)) → s + size e ≤ n → Stands g s e → Small e
table_small g n s empty table h p = tt
table_small g n s (event c) table h p = tt
table_small g n s (choice l r) table h p = (table_small g n s l table (omega arith) p.0, table_small g n (s + size l) r table (omega arith) p.1)
table_small g n s (sequence l r) table h p = (table_small g n s l table (omega arith) p.0, table_small g n (s + size l) r table (omega arith) p.1)
table_small g n s (repeat b lower upper) table h p =
    let u = p.1.0 in
    let line = subst InTable p.1.1 (table (s + size b) (omega arith)) in (
      table_small g n s b table (omega arith) p.0,
      subst⁻¹ (λ (x : Upper). most (low (nullable b) lower) x < 65536) p.1.2 (line_small (nullable b) (eqb u 65535) line refl),
    )

-- ---- the numbers of a spot's state

-- as many counters as repeats
pub spot_long : (e : Expr) (k : Spot e) → length (spot_state e k).counts ≡ repeats e
spot_long e start = ap {B = ℕ} length (start_counts e) ∙ zeros_long e
spot_long e (behind p) = place_long e p

module _ (e : Expr) (small : Small e) (short : size e < 65536) where
  -- the node fits, and the counters fit
  spot_node_lem : (k : Spot e) → (spot_state e k).node < 65536
  spot_node_lem start = omega arith
  spot_node_lem (behind p) = omega (arith, node_below 0 e p)

  spot_narrow : (k : Spot e) → Safe e k → Narrow (spot_state e k).counts
  spot_narrow start s = subst⁻¹ Narrow (start_counts e) (zeros_narrow e)
  spot_narrow (behind p) s = place_narrow e p s small

  pub numbers_narrow : (k : Spot e) → Safe e k → Narrow ((spot_state e k).node ∷ padded (spot_state e k).counts)
  numbers_narrow k s =
      let counts = (spot_state e k).counts in
      (spot_node_lem k, narrow_take 32 (counts ++ replicate 32 0) (narrow_append counts (replicate 32 0) (spot_narrow k s) (narrow_zeros 32)))

-- ---- a file's expression

-- it has at most 32 counters, and each fits
module _ {f : List ℕ} {e : Expr} (h : Holds f e) where
  pub few_counters : repeats e ≤ 32
  few_counters = let lists = h.formed.lists in omega (arith, repeats_all (node_at f) (count f) e lists.0 lists.1, h.few)

  pub small_counters : Small e
  small_counters = let lists = h.formed.lists in table_small (node_at f) (count f) 0 e h.formed.table (omega (arith, lists.1)) lists.0

module _ (f : List ℕ) (e : Expr) (h : Holds f e) where
  pub numbers_fit : (k : Spot e) → Safe e k → Narrow ((spot_state e k).node ∷ padded (spot_state e k).counts)
  numbers_fit = numbers_narrow e (small_counters h) (omega (arith, h.formed.lists.1, h.formed.framed.2.1))

  -- spots with the same bytes have the same state
  pub same_bytes_same_state : (k j : Spot e) → Safe e k → Safe e j → state_bytes (spot_state e k) ≡ state_bytes (spot_state e j)
      → spot_state e k ≡ spot_state e j
  same_bytes_same_state k j s t b =
      let all = narrow_unique _ _ (numbers_fit k s) (numbers_fit j t) b in
      let n = head-eq_of_cons-eq all in
      let few = few_counters h in
      let long = spot_long e k in
      let c = padded_unique (spot_state e k).counts (spot_state e j).counts (long ∙ sym (spot_long e j)) (omega arith) (tail-eq_of_cons-eq all) in
      λ i. record { node = n i; counts = c i }

  -- every run that reaches the bytes of a spot's state stands at the spot
  pub reaches_bytes_run : (k : Spot e) → Safe e k → (bytes w : List ℕ) → bytes ≡ state_bytes (spot_state e k) → ReachesBytes e w bytes → RunAt e w k
  reaches_bytes_run k s bytes w b r =
      let at = reaches_run e (holds_bounded h) w r.0 r.1 in
      let same = same_bytes_same_state at.0 k at.1.safe s (ap state_bytes at.2 ∙ sym r.2 ∙ b) in
      record { safe = s; there = subst (Reaches e w) same at.1.there }
