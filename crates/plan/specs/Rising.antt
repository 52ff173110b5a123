-- What is known of any plan: what its links say, and that they lead upward. A model of our code, and no promise.
use Rattle.std.specs.Prelude.{◌≡◌, List, ℕ, ◌≤◌, ◌<◌, get_or}
use Rattle.procedure.specs.Entry.{Nodes, held, kind_of}
use Rattle.plan.specs.Link.{Links, above_in, begins_in, rank_in, untold}

abbrev pub above_at : Links → ℕ → ℕ
above_at plan i = above_in (get_or plan i untold)

abbrev pub begins_at : Links → ℕ → ℕ
begins_at plan i = begins_in (get_or plan i untold)

abbrev pub rank_at : Links → ℕ → ℕ
rank_at plan i = rank_in (get_or plan i untold)

abbrev pub start_at : List ℕ → ℕ → ℕ
start_at starts i = get_or starts i 0

-- a repeat at node x has one of the 32 counters
abbrev pub Ranked : Nodes → Links → ℕ → Type 0
Ranked nodes plan x = kind_of (held nodes x) ≡ 4 → rank_at plan x < 32

-- the plan leads upward from node i, to a part that begins no later, and to its counters
pub record Leads (nodes : Nodes) (starts : List ℕ) (plan : Links) (i : ℕ) : Type 0 where
  pub up : i < above_at plan i
  pub counted : Ranked nodes plan i
  pub from : start_at starts i ≤ i
  pub few : rank_at plan i ≤ 32

-- so it does from each of the n nodes
abbrev pub Rises : Nodes → List ℕ → Links → ℕ → Type 0
Rises nodes starts plan n = (i : ℕ) → i < n → Leads nodes starts plan i
