-- What is worked out of a node without children. Assumes nothing.
use mathlib.Core.Logic.{◌↔◌}
use mathlib.Core.Path.{◌≡◌, sym, ap, subst, ◌∙◌}
use Prim.Native.Nat.{ℕ}
use native.Mathlib.Omega.{arith}
use Rattle.codes.specs.Codes.{Codes, Contains}
use Rattle.meaning.specs.Expr.{Expr, empty, event}
use Rattle.meaning.specs.Node.{node}
use Rattle.meaning.specs.Sets.{First, After}
use Rattle.procedure.specs.Entry.{kind_of, code_of}
use Rattle.procedure.proofs.Standing.{at_leaf}
use Rattle.sets.specs.Sets.{WorkedOut, WorkedAt, OfLeaf}
use Rattle.sets.specs.declared.joins.NodeSets.{NodeSets}
use Rattle.sets.proofs.Joining.{Exactly}

abbrev made : Codes → Codes → NodeSets
made first after = record { first = first; after = after }

-- a part with no code in after
leaf_of : (first after : Codes) (e : Expr) → Exactly first (First e) → ((c : ℕ) → ¬ Contains after c) → ((c : ℕ) → ¬ After e c)
    → WorkedOut e (made first after)
leaf_of first after e f none a = record {
  firsts = f;
  afters = λ c. (λ h. absurd (none c h), λ h. absurd (a c h));
}

pub leaf_empty : (first after : Codes) → ((c : ℕ) → ¬ Contains first c) → ((c : ℕ) → ¬ Contains after c) → OfLeaf (node 0 0 0 0 0) (made first after)
unfolding OfLeaf WorkedAt
leaf_empty first after f none = λ g i h s.
    at_leaf g s i 0 (ap kind_of (sym h)) (λ e. WorkedOut e (made first after)) (omega arith)
    (λ at z. leaf_of first after empty (λ c. (λ h. absurd (f c h), λ h. absurd h)) none (λ c h. h))
    (λ c at z code. absurd (omega arith))

pub leaf_event : (first after : Codes) (d : ℕ) → ((c : ℕ) → Contains first c ↔ (c ≡ d)) → ((c : ℕ) → ¬ Contains after c)
    → OfLeaf (node 1 d 0 0 0) (made first after)
unfolding OfLeaf WorkedAt
leaf_event first after d f none = λ g i h s.
    at_leaf g s i 1 (ap kind_of (sym h)) (λ e. WorkedOut e (made first after)) (omega arith)
    (λ at z. absurd (omega arith))
    (λ c at z code. leaf_of first after (event c) (subst (λ (e : ℕ). Exactly first (λ b. b ≡ e)) (sym (ap code_of h) ∙ code) f) none (λ b h. h))
