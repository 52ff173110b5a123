-- `states::reached::read_state` meets its contract. Assumes nothing.
use Rattle.states.proofs.ReachedBytes.{other_length_unreached}
use Rattle.states.proofs.Readiness.{read_tested}
use Rattle.states.proofs.reached.read_state.Goals as goal

pub returns-then-bytes-ne-STATE_BYTES : goal.returns-then-bytes-ne-STATE_BYTES
returns-then-bytes-ne-STATE_BYTES c = λ e w. other_length_unreached e c.args.bytes.now c.if-bytes-ne-STATE_BYTES.true

pub returns : goal.returns
returns c = λ e w. rw c.then_some.ensures (read_tested w c.decode-standing.result c.is_reached.result c.decode-standing.ensures (c.is_reached.ensures e w))
