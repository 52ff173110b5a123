-- How the plan is filled, downward from the root. A model of our code, and no promise.
use Rattle.std.specs.Prelude.{Bool, false, cond, List, ℕ, zero, suc, ◌-◌, eqb, ltb, get_or, set}
use Rattle.meaning.specs.Node.{Node, repeats_below}
use Rattle.meaning.specs.Expr.{Expr}
use Rattle.procedure.specs.declared.Procedure.{Procedure}
use Rattle.procedure.specs.Entry.{Nodes, held, kind_of, left_of}
use Rattle.procedure.specs.Listing.{Tables}
use Rattle.plan.specs.Link.{Links, ranked_in, told_in, untold}
use Rattle.plan.specs.Plan.{above_at, begins_at, Plans}

-- node c is told what stands above it
abbrev pub tell : Links → ℕ → ℕ → ℕ → Links
tell plan c above begins = set plan c (told_in above begins)

-- node i gets its rank
abbrev pub rank_to : Links → ℕ → ℕ → Links
rank_to plan i rank = set plan i (ranked_in (get_or plan i untold) rank)

-- what the right part of a sequence begins: as much as the sequence, where the left part may be empty; else itself
abbrev pub begins_right : Bool → ℕ → ℕ → ℕ
begins_right null begins right = cond null begins right

-- node i, which is m, tells its children what stands above them
abbrev pub link_with : Node → List Bool → Links → ℕ → Links
link_with m nulls plan i =
    cond (ltb (kind_of m) 2) plan
    (cond (eqb (kind_of m) 4) (tell plan (i - 1) i (begins_at plan i))
    (cond (eqb (kind_of m) 3)
    (tell (tell plan (left_of m) i (begins_at plan i)) (i - 1) (above_at plan i) (begins_right (get_or nulls (left_of m) false) (begins_at plan i) (i - 1)))
    (tell (tell plan (left_of m) (above_at plan i) (begins_at plan i)) (i - 1) (above_at plan i) (begins_at plan i))))

-- node i gets its rank and tells its children
abbrev pub visit : Nodes → List Bool → Links → ℕ → Links
visit nodes nulls plan i = link_with (held nodes i) nulls (rank_to plan i (repeats_below (held nodes) i)) i

-- each node below i does, downward
abbrev pub down : Nodes → List Bool → Links → ℕ → Links
down nodes nulls plan zero = plan
down nodes nulls plan (suc i) = down nodes nulls (visit nodes nulls plan i) i

-- the procedure is the expression, by these tables of starts and repeats, whatever those that it holds
abbrev pub TablesBy : Procedure → List ℕ → List ℕ → Expr → Type 0
TablesBy p starts repeats e = Tables p.nodes starts p.nulls repeats p.count p.repeat_count e

-- and the links are those of its plan
abbrev pub PlansBy : Procedure → List ℕ → Links → Expr → Type 0
PlansBy p starts links e = Plans p.nodes starts p.nulls links p.count e
