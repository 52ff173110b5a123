-- What the order test finds. A model of our code, and no promise.
use Rattle.std.specs.Prelude.{◌≡◌, Option, Some, None, Result, Ok, Err, List, ℕ, suc, ◌-◌, ◌<◌}
use Rattle.meaning.specs.declared.Refusal.{Refusal}
use Rattle.meaning.specs.declared.Refusal.TheVariants as refusal
use Rattle.meaning.specs.Node.{Node, InOrder}
use Rattle.procedure.specs.Listing.{Spans, TellsStarts}

-- what is found for node i
abbrev pub StartsAt : (ℕ → Node) → ℕ → Option ℕ → Type 0
StartsAt g i (Some s) = Spans g s i
StartsAt g i None = ¬ InOrder g i

-- every node below i is in order
abbrev pub OrderedBelow : (ℕ → Node) → ℕ → Type 0
OrderedBelow g i = (j : ℕ) → j < i → InOrder g j

-- what the test finds in the first n nodes: the lowest that is out of order; the last, where all are in order but its part does
-- not begin at node 0; or the nodes are one part, and the table has where the part of each begins
pub data FindsStarts (g : ℕ → Node) (starts : List ℕ) (n : ℕ) : Result Unit Refusal → Type 0 where
  broken : (i : ℕ) → i < n → OrderedBelow g i → ¬ InOrder g i → FindsStarts g starts n (Err (refusal.Order i))
  late : (i : ℕ) → suc i ≡ n → OrderedBelow g n → ¬ Spans g 0 i → FindsStarts g starts n (Err (refusal.Order i))
  whole : Spans g 0 (n - 1) → TellsStarts g starts n → FindsStarts g starts n (Ok tt)
