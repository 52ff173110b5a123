-- Where there is a conflict there is exactly one lowest; there is one exactly if the expression is not strongly deterministic.
use mathlib.Core.Path.{◌≡◌, refl, sym, subst, subst₂}
use mathlib.Core.Logic.{◌↔◌}
use Prim.Native.Nat.{ℕ, ◌+◌}
use native.Mathlib.Omega.{arith}
use native.Mathlib.Decide.{ℕ_discrete}
use Rattle.meaning.specs.Expr.{Expr, Bounded}
use Rattle.meaning.specs.Strong.{StronglyDeterministic}
use Rattle.meaning.specs.Conflict.{ConflictAt, LowestConflict, SharedCodes}
use Rattle.meaning.specs.Codes.{Has, in_words, most_code}
use Rattle.meaning.specs.Properties.{CountBelow}
use Rattle.meaning.proofs.General.CodeSets.{set_unique}
use Rattle.meaning.proofs.General.Properties.{count_unique, least_unique}
use Rattle.meaning.proofs.Deciding.Listed.{kept, some, least}
use Rattle.meaning.proofs.Deciding.ConflictList.{Named, conflict_list}
use Rattle.meaning.proofs.Determinism.Diverge.{strong_no_conflict, strong_iff_no_conflict}

-- where there is a conflict there is a lowest one: one with the least node, of those one with the least kind, of those the one with the
-- least code
pub conflict_lowest : (e : Expr) (i k c : ℕ) → ConflictAt 0 e i k c → (j l d : ℕ) × LowestConflict e j l d
conflict_lowest e i k c f =
    let all = conflict_list 0 e in
    let a = least (λ w. w.0) all (i, k, c) f in
    let there = kept all (λ w. ℕ_discrete w.0 a.0.0) in
    let b = least (λ w. w.1) there a.0 (a.1, refl) in
    let m = least (λ w. w.2) (kept there (λ w. ℕ_discrete w.1 b.0.1)) b.0 (b.1, refl) in
    let node = m.1.0.1 in
    let kind = m.1.1 in (
      m.0.0,
      m.0.1,
      m.0.2,
      record {
        node = record { holds = (m.0.1, m.0.2, m.1.0.0); lowest = λ j g. omega (arith, node, a.2 (j, g.0, g.1) g.2) };
        kind = record { holds = (m.0.2, m.1.0.0); lowest = λ l g. omega (arith, kind, b.2 (m.0.0, l, g.0) (g.1, node)) };
        code = record { holds = m.1.0.0; lowest = λ d g. m.2 (m.0.0, m.0.1, d) ((g, node), kind) };
      },
    )

-- and only one
pub lowest_unique : (e : Expr) (i k c j l d : ℕ) → LowestConflict e i k c → LowestConflict e j l d → (i ≡ j) × (k ≡ l) × (c ≡ d)
lowest_unique e i k c j l d x y =
    let p : i ≡ j = least_unique x.node y.node in
    let y₁ = subst (λ j. LowestConflict e j l d) (sym p) y in
    let q : k ≡ l = least_unique x.kind y₁.kind in
    let y₂ = subst (λ l. LowestConflict e i l d) (sym q) y₁ in
    (p, q, least_unique x.code y₂.code)

-- the codes that it shares are one set, of which there are so many
pub shared_unique : {e : Expr} {i k low high n low' high' n' : ℕ} → SharedCodes e i k low high n → SharedCodes e i k low' high' n'
    → (low ≡ low') × (high ≡ high') × (n ≡ n')
shared_unique {low = low} {high} {n} {low'} {high'} {n'} x y =
    let words = set_unique x.set y.set in
    let count = subst₂ (λ (l h : ℕ). CountBelow (Has (in_words l h)) (most_code + 1) n) words.0 words.1 x.count in
    (words.0, words.1, count_unique count y.count)

-- there is one exactly if the expression is not strongly deterministic
pub lowest_iff_not_strong : (e : Expr) → Bounded e → ((i k c : ℕ) × LowestConflict e i k c) ↔ ¬ StronglyDeterministic e
lowest_iff_not_strong e h = (λ x s. strong_no_conflict e h s x.0 x.1 x.2 x.3.code.holds, λ n. found n (some (conflict_list 0 e)))
  where
    found : ¬ StronglyDeterministic e → Dec ((w : Named) × ConflictAt 0 e w.0 w.1 w.2) → (i k c : ℕ) × LowestConflict e i k c
    found n (yes f) = conflict_lowest e f.0.0 f.0.1 f.0.2 f.1
    found n (no never) = absurd (n ((strong_iff_no_conflict e h).1 (λ i k c f. never ((i, k, c), f))))
