-- Following events, from the tree: where a run stands, the event that comes next, and the run over all events. A model of our code, and
-- no promise.
use Rattle.std.specs.Prelude.{Bool, true, false, List, ℕ, ◌≡◌, ◌+◌, ◌<◌, get_or}
use Rattle.meaning.specs.Expr.{Expr, event, Part}
use Rattle.meaning.specs.Theory.Places.{Place}
use Rattle.meaning.specs.Theory.Spots.{Spot, behind}
use Rattle.meaning.specs.Theory.Runs.{LeadsTo, NoWay, Going}
use Rattle.procedure.specs.declared.node.Node.TheVariants.{Empty, Event, Choice, Sequence, Repeat}
use Rattle.procedure.specs.Entry.{Entry, Nodes}
use Rattle.states.specs.declared.standing.Standing.{Standing}
use Rattle.states.specs.Standing.{AtSpot, StandsAt}

-- what the table of codes has for a node: the code of an event, and else no code that an event may have
abbrev pub told_code : Entry → ℕ
told_code Empty = 255
told_code (Event c) = c
told_code (Choice left right) = 255
told_code (Sequence left right) = 255
told_code (Repeat body lower upper) = 255

-- the table of codes tells so of each node below n
abbrev pub TellsCodes : Nodes → List ℕ → ℕ → Type 0
TellsCodes nodes codes n = (q : ℕ) → q < n → get_or codes q 0 ≡ told_code (get_or nodes q Empty)

-- from the spot to event node q, with the counters c before and d after: yes exactly if the way leads to a place
pub data Tried (e : Expr) (k : Spot e) (q : ℕ) : Bool → List ℕ → List ℕ → Type 0 where
  leads : {c d : List ℕ} (t : Place e) → LeadsTo e k q t → AtSpot e (behind t) (q + 1) d → Tried e k q true c d
  stays : {c : List ℕ} → ((t : Place e) → ¬ LeadsTo e k q t) → Tried e k q false c c

-- from the spot by an event with the code, and so the run stands before and after: yes exactly if the code continues
pub data Nexted (e : Expr) (k : Spot e) (code : ℕ) : Bool → Standing → Standing → Type 0 where
  goes : {c d : Standing} (q : ℕ) (t : Place e) → Part 0 e q (event code) → LeadsTo e k q t → StandsAt e (behind t) d → Nexted e k code true c d
  stays : {c : Standing} → NoWay e k code → Nexted e k code false c c

-- from the spot with the events: so many are taken, and so the run then stands
pub record RanTo (e : Expr) (k : Spot e) (events : List ℕ) (taken : ℕ) (s : Standing) : Type 0 where
  pub spot : Spot e
  pub going : Going e k events taken spot
  pub stood : StandsAt e spot s
