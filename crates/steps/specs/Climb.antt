-- The way up from an event node. A model of our code, and no promise.
use Rattle.std.specs.Prelude.{◌≡◌, Bool, true, false, cond, ◌&&◌, List, ℕ, ◌+◌, ◌-◌, ◌≤◌, ◌<◌, eqb, leb, get_or}
use Rattle.meaning.specs.Expr.{Upper, upto, endless}
use Rattle.meaning.specs.Node.{Node, bound}
use Rattle.meaning.specs.Normal.{low}
use Rattle.procedure.specs.Entry.{Nodes, held, kind_of, lower_of, upper_of}
use Rattle.steps.specs.declared.climb.Look.{Look}
use Rattle.steps.specs.declared.climb.Look.TheVariants.{Turns, On, Stops}
use Rattle.steps.specs.declared.climb.Turn.{Turn}
use Rattle.steps.specs.declared.climb.Turn.TheVariants.{At, Ends, Stuck}
use Rattle.plan.specs.Link.{Links}
use Rattle.plan.specs.Plan.{above_at, begins_of, rank_at}
use Rattle.plan.specs.declared.Plan as plan

-- the upper bound allows j blocks
abbrev pub allowed : ℕ → Upper → Bool
allowed j (upto n) = leb j n
allowed j endless = true

-- a repeat with c blocks begun may begin one more with q, of whose body y is the node
abbrev pub begins_again : Node → List ℕ → Links → ℕ → ℕ → ℕ → Bool
begins_again m starts plan c y q = begins_of starts plan y q && allowed (c + 1) (bound (upper_of m))

-- c blocks of a repeat are enough
abbrev pub enough_of : Node → Bool → ℕ → Bool
enough_of m null c = leb (low null (lower_of m)) c

-- what the way does where it may turn, and where the part may end
abbrev pub choose : Bool → Bool → Look
choose turns ends = cond turns Turns (cond ends On Stops)

-- at a sequence, of whose right part y is the node
abbrev pub look_into : List ℕ → List Bool → Links → ℕ → ℕ → Look
look_into starts nulls plan y q = choose (begins_of starts plan y q) (get_or nulls y false)

-- at a repeat with c blocks begun, of whose body y is the node
abbrev pub look_repeat : Node → List ℕ → List Bool → Links → ℕ → ℕ → ℕ → Look
look_repeat m starts nulls plan c y q =
    choose (begins_again m starts plan c y q) (enough_of m (get_or nulls y false) c)

-- at node x
abbrev pub look_of : Nodes → List ℕ → List Bool → Links → List ℕ → ℕ → ℕ → Look
look_of nodes starts nulls plan counts x q =
    cond (eqb (kind_of (held nodes x)) 4) (look_repeat (held nodes x) starts nulls plan (get_or counts (rank_at plan x) 0) (x - 1) q)
    (look_into starts nulls plan (x - 1) q)

-- the way up from node x, that node included, towards event node q
pub data Climbs (nodes : Nodes) (starts : List ℕ) (nulls : List Bool) (plan : Links) (counts : List ℕ) (n q : ℕ) : ℕ → Turn → Type 0 where
  past : {x : ℕ} → n ≤ x → Climbs nodes starts nulls plan counts n q x Ends
  turns : {x : ℕ} → x < n → look_of nodes starts nulls plan counts x q ≡ Turns → Climbs nodes starts nulls plan counts n q x (At x)
  stops : {x : ℕ} → x < n → look_of nodes starts nulls plan counts x q ≡ Stops → Climbs nodes starts nulls plan counts n q x Stuck
  on : {x : ℕ} {r : Turn} → x < n → look_of nodes starts nulls plan counts x q ≡ On → Climbs nodes starts nulls plan counts n q (above_at plan x) r
      → Climbs nodes starts nulls plan counts n q x r

-- ---- the same by a plan as the code holds it

abbrev pub look_by : plan.Plan → List ℕ → ℕ → ℕ → Look
look_by p counts x q = look_of p.procedure.now.nodes p.procedure.now.starts p.procedure.now.nulls p.links.now counts x q

abbrev pub ClimbsBy : plan.Plan → List ℕ → ℕ → ℕ → Turn → Type 0
ClimbsBy p counts q x r =
    Climbs p.procedure.now.nodes p.procedure.now.starts p.procedure.now.nulls p.links.now counts p.procedure.now.count q x r
