-- How far a part reaches: what is left of it reaches no further, nor do its children and its blocks. Assumes nothing.
use mathlib.Core.Path.{◌≡◌, ap, ◌∙◌}
use mathlib.Core.List.{List}
use Prim.Native.Nat.{ℕ, ◌+◌, ◌-◌, ◌*◌, ◌≤◌, ◌<◌}
use native.Mathlib.Nat.{add-mul, mul-add, mul-le-mul_left}
use native.Mathlib.Omega.{arith}
use lib.ListN.{length}
use Rattle.write.specs.Lay.{reach}

-- what a part reaches in a run, by the rest of the run
spread : (i j d n : ℕ) → i ≡ j + d → (2 * i + 1) * n ≡ (2 * j + 1) * n + 2 * d * n
spread i j d n h =
    let e : 2 * i + 1 ≡ 2 * j + 1 + 2 * d = omega arith in
    ap (λ (k : ℕ). k * n) e ∙ add-mul (2 * j + 1) (2 * d) n

module _ (run : List ℕ) (i at to : ℕ) where
  pub reach_over : to ≤ reach run i at to
  unfolding reach
  reach_over = omega arith

  -- an event is one item
  pub reach_event : at < length run → reach run i (at + 1) (to + 1) ≤ reach run i at to
  unfolding reach
  reach_event l =
      let n = length run - (at + 1) in
      let e : length run - at ≡ n + 1 = omega arith in
      let f : (2 * i + 1) * (length run - at) ≡ (2 * i + 1) * n + (2 * i + 1) * 1 = ap (λ (k : ℕ). (2 * i + 1) * k) e ∙ mul-add (2 * i + 1) n 1 in
      omega arith

  -- a part below reaches no further
  pub reach_narrow : (j : ℕ) → j ≤ i → reach run j at to ≤ reach run i at to
  unfolding reach
  reach_narrow j h = let f = spread i j (i - j) (length run - at) (omega arith) in omega arith

  -- nor does the part itself from where one below has led
  pub reach_wide : (j a t : ℕ) → j ≤ i → at ≤ a → reach run j a t ≤ reach run j at to → reach run i a t ≤ reach run i at to
  unfolding reach
  reach_wide j a t h l r =
      let f = spread i j (i - j) (length run - at) (omega arith) in
      let k = spread i j (i - j) (length run - a) (omega arith) in
      let m = mul-le-mul_left {m = length run - a} {n = length run - at} (2 * (i - j)) (omega arith) in
      omega arith

  -- a block is the items of its body and two, for at least one event
  pub reach_open : 1 ≤ i → at < length run → reach run (i - 1) at (to + 1) ≤ reach run i at to
  unfolding reach
  reach_open some l = let f = spread i (i - 1) 1 (length run - at) (omega arith) in omega arith

  pub reach_close : (a t : ℕ) → 1 ≤ i → at < a → a ≤ length run → reach run (i - 1) a t ≤ reach run (i - 1) at (to + 1)
      → reach run i a (t + 1) ≤ reach run i at to
  unfolding reach
  reach_close a t some l h r =
      let f = spread i (i - 1) 1 (length run - at) (omega arith) in
      let k = spread i (i - 1) 1 (length run - a) (omega arith) in
      omega arith
