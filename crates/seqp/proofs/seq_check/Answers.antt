-- `seqp::seq_check` meets its promise: each arm gives the numbers of its answer. Assumes nothing.
use mathlib.Core.Path.{◌≡◌, refl, ap, ◌∙◌}
use mathlib.Core.Bool.{Bool, true, false}
use Prim.Native.Nat.{ℕ}
use Rattle.std.specs.Prelude.{Ok, Err}
use mir.Val.{bool_byte}
use Rattle.meaning.specs.Numbers.{CheckNumbers, checked, check_numbers}
use Rattle.meaning.specs.Promises.{CheckPromise}
use Rattle.seqp.proofs.seq_check.Goals as goal

yes_number : (found : Bool) → checked 0 (bool_byte found) ≡ check_numbers (Ok found)
yes_number true = refl
yes_number false = refl

pub returns-in-Ok : goal.returns-in-Ok
unfolding CheckPromise
returns-in-Ok c = (Ok c.in-Ok.found, c.in-Ok.ensures, ap (checked 0) c.from.ensures ∙ yes_number c.in-Ok.found)

pub returns-in-Err : goal.returns-in-Err
unfolding CheckPromise
returns-in-Err c = (Err c.in-Err.refusal, c.in-Err.ensures, λ i. checked (c.number_of.ensures i) 0)
