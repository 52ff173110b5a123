-- The repeats among a file's nodes: how many there are below a node, and those of a part. Assumes nothing.
use mathlib.Core.Path.{◌≡◌, ap, subst, ◌∙◌}
use Prim.Native.Nat.{ℕ, zero, suc, ◌+◌, ◌-◌, ◌≤◌}
use native.Mathlib.Nat.{le_refl}
use native.Mathlib.Omega.{arith}
use Rattle.meaning.specs.Expr.{Expr, empty, event, choice, sequence, repeat, size}
use Rattle.meaning.specs.Node.{Node, Stands, is_repeat, repeats_below}
use Rattle.meaning.specs.Theory.Counts.{repeats}

-- one node more
pub more_below : (g : ℕ → Node) (i m : ℕ) → m ≡ suc i → repeats_below g m ≡ repeats_below g i + is_repeat (g i)
more_below g i m e = ap (repeats_below g) e

-- two children's repeats, and none at the node above them
pair_past : (g : ℕ → Node) (s l r j k : ℕ) → is_repeat (g (s + l + r)) ≡ 0 → repeats_below g (s + l) ≡ repeats_below g s + j
    → repeats_below g (s + l + r) ≡ repeats_below g (s + l) + k
    → repeats_below g (s + (l + r + 1)) ≡ repeats_below g s + (j + k)
pair_past g s l r j k own left right = let all = more_below g (s + l + r) (s + (l + r + 1)) (omega arith) in omega arith

-- a part has its repeats among its nodes
pub repeats_past : (g : ℕ → Node) (s : ℕ) (e : Expr) → Stands g s e → repeats_below g (s + size e) ≡ repeats_below g s + repeats e
repeats_past g s empty st = more_below g s (s + 1) (omega arith) ∙ ap (λ (m : Node). repeats_below g s + is_repeat m) st
repeats_past g s (event c) st = more_below g s (s + 1) (omega arith) ∙ ap (λ (m : Node). repeats_below g s + is_repeat m) st
repeats_past g s (choice l r) st =
    pair_past g s (size l) (size r) (repeats l) (repeats r) (ap is_repeat st.2) (repeats_past g s l st.0) (repeats_past g (s + size l) r st.1)
repeats_past g s (sequence l r) st =
    pair_past g s (size l) (size r) (repeats l) (repeats r) (ap is_repeat st.2) (repeats_past g s l st.0) (repeats_past g (s + size l) r st.1)
repeats_past g s (repeat b lower upper) st =
    let body = repeats_past g s b st.0 in
    let own = ap is_repeat st.1.1 in
    let all = more_below g (s + size b) (s + (size b + 1)) (omega arith) in
    omega arith

-- and the whole has all that there are
pub repeats_all : (g : ℕ → Node) (n : ℕ) (e : Expr) → Stands g 0 e → size e ≡ n → repeats_below g n ≡ repeats e
repeats_all g n e st all =
    let whole : 0 + size e ≡ n = omega arith in
    omega (arith, repeats_past g 0 e st, ap (repeats_below g) whole)

rises_by : (g : ℕ → Node) (i k : ℕ) → repeats_below g i ≤ repeats_below g (i + k)
rises_by g i zero =
    let same : i ≡ i + 0 = omega arith in subst (λ (m : ℕ). repeats_below g i ≤ repeats_below g m) same (le_refl (repeats_below g i))
rises_by g i (suc k) =
    let less = rises_by g i k in
    let more = more_below g (i + k) (i + suc k) (omega arith) in
    omega arith

-- there are no fewer repeats below a higher node
pub below_rises : (g : ℕ → Node) (i m : ℕ) → i ≤ m → repeats_below g i ≤ repeats_below g m
below_rises g i m h =
    let same : i + (m - i) ≡ m = omega arith in subst (λ (k : ℕ). repeats_below g i ≤ repeats_below g k) same (rises_by g i (m - i))
