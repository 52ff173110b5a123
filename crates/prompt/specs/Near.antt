-- Which event nodes can directly follow one another in the loosened procedure, and the codes to light. A model of our code, and no promise.
use Rattle.std.specs.Prelude.{◌≡◌, ◌↔◌, Option, Some, None, Bool, true, false, cond, ◌&&◌, ℕ, ◌-◌, ◌≤◌, ◌<◌, eqb, get_or}
use Rattle.std.proofs.Math.Bool.{So}
use Rattle.codes.specs.Codes.{Codes, Contains}
use Rattle.meaning.specs.Codes.{most_code}
use Rattle.meaning.specs.Expr.{Expr, event, Part}
use Rattle.meaning.specs.Node.{Node, bound}
use Rattle.meaning.specs.Loose.{many}
use Rattle.meaning.specs.Promises.{Lights}
use Rattle.meaning.specs.Theory.Near.{Near}
use Rattle.meaning.specs.Theory.Places.{Place, node_of}
use Rattle.procedure.specs.declared.Procedure.{Procedure}
use Rattle.procedure.specs.Entry.{held, code_of, kind_of, upper_of}
use Rattle.plan.specs.declared.Plan.{Plan}
use Rattle.plan.specs.Plan.{PlanOf, begins_of}

-- the way may turn at the node: at a repeat only where it may have a second block
abbrev pub may_turn : Node → Bool
may_turn m = cond (eqb (kind_of m) 4) (many (bound (upper_of m))) true

-- it turns at node x towards event node q: into one more block of a repeat, or into the right part of a sequence
abbrev pub turns_at : Plan → ℕ → ℕ → Bool
turns_at plan x q = begins_of plan.procedure.now.starts plan.links.now (x - 1) q && may_turn (held plan.procedure.now.nodes x)

-- it goes on above node x: past a repeat, or past a sequence whose right part may be empty
abbrev pub passes_at : Procedure → ℕ → Bool
passes_at p x = cond (eqb (kind_of (held p.nodes x)) 4) true (get_or p.nulls (x - 1) false)

-- the test tells whether event node q is near event node p, whatever expression the plan is of
pub record TellsNear (plan : Plan) (p q : ℕ) (r : Bool) : Type 0 where
  pub tells : (e : Expr) (t : Place e) → PlanOf plan e → node_of 0 e t ≡ p → So r ↔ Near 0 e t q

-- the set has the code of node q, where that is an event near event node p, and no other
pub record CodeNear (plan : Plan) (p q : ℕ) (set : Codes) : Type 0 where
  pub holds : (e : Expr) (t : Place e) → PlanOf plan e → node_of 0 e t ≡ p → (c : ℕ) → Contains set c ↔ (Near 0 e t q × Part 0 e q (event c))

-- the set has the codes of the event nodes below i that are near event node p
pub record CodesNear (plan : Plan) (p i : ℕ) (set : Codes) : Type 0 where
  pub holds : (e : Expr) (t : Place e) → PlanOf plan e → node_of 0 e t ≡ p
      → (c : ℕ) → Contains set c ↔ ((q : ℕ) × (q < i) × Near 0 e t q × Part 0 e q (event c))

-- the code of each event keeps to the table
abbrev pub Coded : Procedure → Type 0
Coded p = (i : ℕ) → i < p.count → kind_of (held p.nodes i) ≡ 1 → code_of (held p.nodes i) ≤ most_code

-- what a run can have reached: nothing yet, or an event node
abbrev pub EventReached : Procedure → Option ℕ → Type 0
EventReached p None = Unit {0}
EventReached p (Some i) = (i < p.count) × (kind_of (held p.nodes i) ≡ 1)

-- the set has the codes that are lit at the place of a state, of whatever expression the plan is
pub record LitAt (plan : Plan) (place : ℕ) (set : Codes) : Type 0 where
  pub holds : (e : Expr) → PlanOf plan e → (c : ℕ) → Contains set c ↔ Lights e place c
