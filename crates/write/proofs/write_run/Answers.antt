-- `write::write_run` meets its contract, by what the two walks lay of the run. Assumes nothing.
use mathlib.Core.Path.{◌∙◌}
use native.Mathlib.Omega.{arith}
use Rattle.std.proofs.lemmas.Result.{err_from_is_err_and}
use Rattle.procedure.proofs.Nodes.{listing_some}
use Rattle.write.proofs.Writing.{few_items, told_incomplete, walk_leeway, writes_all, writes_no_room, writes_part, writes_too_long, writes_unlaid}
use Rattle.write.proofs.write_run.Goals as goal

pub returns-then-events-gt-LONGEST : goal.returns-then-events-gt-LONGEST
returns-then-events-gt-LONGEST c = λ f e o l. writes_too_long c.args.source.now o l c.if-events-gt-LONGEST.true

pub overflow_sub-root : goal.overflow_sub-root
overflow_sub-root c = listing_some c.requires.lists

pub lay-requires-clause-below : goal.lay-requires-clause-below
lay-requires-clause-below c = omega (arith, listing_some c.requires.lists)

pub lay-requires-clause-leeway : goal.lay-requires-clause-leeway
lay-requires-clause-leeway c = walk_leeway c.requires c.if-events-gt-LONGEST.false

pub returns-in_err-end : goal.returns-in_err-end
returns-in_err-end c = λ f e o l.
    let p = err_from_is_err_and c.from_residual.result c.from_residual.ensures.1 in
    let refusal = told_incomplete c.lay.result _ c.in_err-end.ensures.value in
    let laid = rw c.in_err-end.ensures.ok_part at c.lay.ensures.lays_at in
    rw (p.1, p.2 ∙ refusal) (writes_unlaid c.args.source.now o l c.if-events-gt-LONGEST.false laid)

pub returns-then-end-events : goal.returns-then-end-events
returns-then-end-events c = λ f e o l.
    let laid = rw c.in_ok-end.ensures.ok_part at c.lay.ensures.lays_at in
    let on = rw c.in_ok-end.ensures.ok_part at c.lay.ensures.advances in
    writes_part c.args.source.now o l c.if-events-gt-LONGEST.false laid on c.if-end-events.true

pub overflow_mul-bytes : goal.overflow_mul-bytes
overflow_mul-bytes c =
    let on = rw c.in_ok-end.ensures.ok_part at c.lay.ensures.advances in
    omega (arith, few_items c.requires c.in_ok-end.end c.if-events-gt-LONGEST.false on)

pub returns-then-space-bytes : goal.returns-then-space-bytes
returns-then-space-bytes c = λ f e o l.
    let laid = rw c.in_ok-end.ensures.ok_part at c.lay.ensures.lays_at in
    writes_no_room c.args.source.now o l c.if-events-gt-LONGEST.false laid c.if-end-events.false c.if-space-bytes.true

pub lay-requires-2-clause-leeway : goal.lay-requires-2-clause-leeway
lay-requires-2-clause-leeway c = walk_leeway c.requires c.if-events-gt-LONGEST.false

pub returns : goal.returns
returns c = λ f e o l.
    let laid = rw c.in_ok-end.ensures.ok_part at c.lay.ensures.lays_at in
    writes_all c.args.source.now o l c.if-events-gt-LONGEST.false laid c.if-end-events.false c.lay-2.result c.if-space-bytes.false c.lay-2.ensures.lays_at
    c.lay-2.ensures.advances
