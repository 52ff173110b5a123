-- What the test of the number of repeats finds. A model of our code, and no promise.
use Rattle.std.specs.Prelude.{◌≡◌, Bool, List, ℕ, suc, ◌≤◌, ◌<◌, Result, Ok, Err}
use Rattle.meaning.specs.Node.{Node, repeats_below}
use Rattle.procedure.specs.Listing.{TellsNulls, TellsRepeats}

-- the list has the repeats of the first n nodes, at most 32, and the table which of their parts have the empty word; or node i is the
-- 33rd repeat
pub data ListsRepeats (g : ℕ → Node) (nulls : List Bool) (list : List ℕ) (n : ℕ) : Result ℕ ℕ → Type 0 where
  listed : (r : ℕ) → TellsNulls g nulls n → TellsRepeats g list n r → r ≤ 32 → ListsRepeats g nulls list n (Ok r)
  over : (i : ℕ) → i < n → repeats_below g i ≡ 32 → repeats_below g (suc i) ≡ 33 → ListsRepeats g nulls list n (Err i)
