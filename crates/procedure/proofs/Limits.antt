-- A repeat's bounds: the tests on the numbers that are written, against the upper bound that a number means. Assumes nothing.
use mathlib.Core.Path.{◌≡◌, refl, sym, ap, subst, ◌∙◌}
use mathlib.Core.Bool.{Bool, true, false, cond}
use Prim.Native.Nat.{ℕ, ◌≤◌, ◌<◌, max}
use native.Mathlib.Omega.{arith}
use borrow.Author.Tests.{eq-eqb, ne_eqb}
use lib.Dec.{leb}
use Rattle.meaning.specs.Expr.{upto, endless, Within}
use Rattle.meaning.specs.Node.{bound}
use Rattle.meaning.specs.Theory.Counts.{most}
use Rattle.meaning.proofs.General.Facts.{so_leb, not_leb}
use Rattle.procedure.specs.Tests.{Decides}

bound_none : (u : ℕ) → u ≡ 65535 → bound u ≡ endless
bound_none u h = ap (λ (b : Bool). cond b endless (upto u)) (eq-eqb u 65535 h)

bound_number : (u : ℕ) → ¬ (u ≡ 65535) → bound u ≡ upto u
bound_number u h = ap (λ (b : Bool). cond b endless (upto u)) (ne_eqb u 65535 h)

-- the bound as it was read
module _ (k u read : ℕ) (told : read ≡ u) where
  pub within_none : read ≡ 65535 → Within k (bound u)
  within_none h = subst (Within k) (sym (bound_none u (omega arith))) tt

  within_number : ¬ (read ≡ 65535) → k ≤ read → Within k (bound u)
  within_number h l = subst (Within k) (sym (bound_number u (λ e. h (omega arith)))) (omega arith)

  past_number : ¬ (read ≡ 65535) → read < k → ¬ Within k (bound u)
  past_number h l w = let m : Within k (upto u) = subst (Within k) (bound_number u (λ e. h (omega arith))) w in omega arith

  pub within_test : ¬ (read ≡ 65535) → Decides (Within k (bound u)) (leb k read)
  within_test h = go (leb k read) refl
    where
      go : (b : Bool) → leb k read ≡ b → Decides (Within k (bound u)) b
      go true e = within_number h ((so_leb k read).0 e)
      go false e = past_number h ((not_leb k read).0 e)

-- the test for enough blocks, with the least number as it was read
pub enough_test : (k least read : ℕ) → read ≡ least → Decides (least ≤ k) (leb read k)
enough_test k least read told = go (leb read k) refl
  where
    go : (b : Bool) → leb read k ≡ b → Decides (least ≤ k) b
    go true e = let l = (so_leb read k).0 e in omega arith
    go false e = let l = (not_leb read k).0 e in λ h. omega arith

-- the most that a counter holds
pub most_number : (lower u read : ℕ) → read ≡ u → ¬ (read ≡ 65535) → read ≡ most lower (bound u)
most_number lower u read told h = told ∙ sym (ap (most lower) (bound_number u (λ e. h (omega arith))))

pub most_none : (lower u read r : ℕ) → read ≡ u → read ≡ 65535 → r ≡ max 1 lower → r ≡ most lower (bound u)
most_none lower u read r told h e = e ∙ sym (ap (most lower) (bound_none u (omega arith)))

-- where the one holds, both hold as the other does
pub decides_both : (P Q : Type 0) (b : Bool) → P → Decides Q b → Decides (P × Q) b
decides_both P Q true p d = (p, d)
decides_both P Q false p d = λ h. d h.1
