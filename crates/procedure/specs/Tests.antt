-- Tests: what the answer of a test says. A model of our code, and no promise.
use Rattle.std.specs.Prelude.{Bool, true, false}

-- the answer is yes where P holds, and no where it does not
abbrev pub Decides : Type 0 → Bool → Type 0
Decides P true = P
Decides P false = ¬ P
