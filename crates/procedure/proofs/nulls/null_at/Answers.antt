-- `procedure::nulls::null_at` meets its contract, kind by kind. Assumes nothing.
use mathlib.Core.Path.{ap, refl}
use borrow.Author.Tests.{eq-eqb, ne_eqb}
use Rattle.procedure.specs.Entry.{held, record_of}
use Rattle.procedure.proofs.Empties.{null_choice, null_empty, null_event, null_repeat, null_sequence}
use Rattle.procedure.proofs.nulls.null_at.Goals as goal

pub returns-in-Empty : goal.returns-in-Empty
returns-in-Empty c = null_empty (held c.args.nodes.now) c.args.i (ap record_of c.in-Empty.is)

pub returns-in-Event : goal.returns-in-Event
returns-in-Event c = null_event (held c.args.nodes.now) c.args.i c.in-Event.field-0 (ap record_of c.in-Event.is)

pub returns-then-nulls-from : goal.returns-then-nulls-from
returns-then-nulls-from c =
    null_choice (held c.args.nodes.now) c.args.i c.args.nulls.now c.requires.tells_nulls c.requires.in_order _ _ _ (ap record_of c.in-Choice.is)
    (rw (← c.from.ensures, c.if-nulls-from.true) refl)

pub returns-else-nulls-from : goal.returns-else-nulls-from
returns-else-nulls-from c =
    null_choice (held c.args.nodes.now) c.args.i c.args.nulls.now c.requires.tells_nulls c.requires.in_order _ _ _ (ap record_of c.in-Choice.is)
    (rw (← c.from.ensures, c.if-nulls-from.false) refl)

pub returns-then-nulls-from-2 : goal.returns-then-nulls-from-2
returns-then-nulls-from-2 c =
    null_sequence (held c.args.nodes.now) c.args.i c.args.nulls.now c.requires.tells_nulls c.requires.in_order _ _ _ (ap record_of c.in-Sequence.is)
    (rw (← c.from-in-Sequence.ensures, c.if-nulls-from-2.true) refl)

pub returns-else-nulls-from-2 : goal.returns-else-nulls-from-2
returns-else-nulls-from-2 c =
    null_sequence (held c.args.nodes.now) c.args.i c.args.nulls.now c.requires.tells_nulls c.requires.in_order _ _ _ (ap record_of c.in-Sequence.is)
    (rw (← c.from-in-Sequence.ensures, c.if-nulls-from-2.false) refl)

pub returns-then-lower-eq0 : goal.returns-then-lower-eq0
returns-then-lower-eq0 c =
    null_repeat (held c.args.nodes.now) c.args.i c.args.nulls.now c.requires.tells_nulls c.requires.in_order _ _ _ _ (ap record_of c.in-Repeat.is)
    (rw (eq-eqb c.in-Repeat.lower 0 c.if-lower-eq0.true) refl)

pub returns-else-lower-eq0 : goal.returns-else-lower-eq0
returns-else-lower-eq0 c =
    null_repeat (held c.args.nodes.now) c.args.i c.args.nulls.now c.requires.tells_nulls c.requires.in_order _ _ _ _ (ap record_of c.in-Repeat.is)
    (rw (ne_eqb c.in-Repeat.lower 0 c.if-lower-eq0.false) refl)
