-- What the test comes to whether a part can begin with an event node. Assumes nothing.
use mathlib.Core.Path.{◌≡◌}
use mathlib.Core.Bool.{false}
use mathlib.Core.List.{List}
use Prim.Native.Nat.{ℕ, ◌≤◌, ◌<◌}
use native.Mathlib.Omega.{arith}
use borrow.Author.Tests.{le-leb, lt-leb}
use lib.Dec.{leb}
use Rattle.plan.specs.Link.{Links}
use Rattle.plan.specs.Plan.{begins_at, begins_of, start_at}

pub begins_before : (starts : List ℕ) (plan : Links) (y q r : ℕ) → r ≡ start_at starts y → q < r → false ≡ begins_of starts plan y q
begins_before starts plan y q r e h = rw (lt-leb (start_at starts y) q (omega arith))

pub begins_behind : (starts : List ℕ) (plan : Links) (y q r : ℕ) → r ≡ start_at starts y → r ≤ q → y < q → false ≡ begins_of starts plan y q
begins_behind starts plan y q r e h k = rw (le-leb (start_at starts y) q (omega arith), lt-leb q y k)

pub begins_within : (starts : List ℕ) (plan : Links) (y q r b : ℕ) → r ≡ start_at starts y → b ≡ begins_at plan q → r ≤ q → q ≤ y
    → leb y b ≡ begins_of starts plan y q
begins_within starts plan y q r b e f h k = rw (le-leb (start_at starts y) q (omega arith), le-leb q y k, f)
