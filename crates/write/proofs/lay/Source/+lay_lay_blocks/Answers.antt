-- The walk over a part and the walk over the blocks of a repeat meet their contracts, by the laws of Walking. Assumes nothing.
use native.Mathlib.Omega.{arith}
use Prim.Native.Nat.{◌-◌}
use Rattle.write.proofs.Laying.{choice_below, repeat_below, sequence_below}
use Rattle.write.proofs.Reaches.{reach_over}
use Rattle.write.proofs.Walking.{blocks_go, blocks_idle, blocks_start, blocks_stop, blocks_stuck, body_leeway, leeway_narrow, some_body, walk_advances, walk_event, walk_leaf, walk_left, walk_next, walk_passed, walk_right, walk_stuck}
use Rattle.write.proofs.lay.Source.+lay_lay_blocks.Goals as goal

pub lay-returns-then-not-begins-clause-lays_at : goal.lay-returns-then-not-begins-clause-lays_at
lay-returns-then-not-begins-clause-lays_at t c = walk_passed c.loop-at.invariant c.if-not-begins.ensures c.then_some.ensures

pub lay-overflow_add-result-in-Empty : goal.lay-overflow_add-result-in-Empty
lay-overflow_add-result-in-Empty t c =
    omega (arith, reach_over c.args.self.now.run.now c.loop-at.i c.loop-at.at.event c.loop-at.at.item, c.loop-at.invariant.leeway.fits)

pub lay-returns-in-Empty-clause-advances : goal.lay-returns-in-Empty-clause-advances
lay-returns-in-Empty-clause-advances t c = walk_event c.loop-at.invariant c.if-not-begins.ensures

pub lay-returns-in-Empty-clause-lays_at : goal.lay-returns-in-Empty-clause-lays_at
lay-returns-in-Empty-clause-lays_at t c = walk_leaf c.loop-at.invariant c.if-not-begins.ensures c.in-Empty.is c.put.ensures

pub lay-overflow_sub-i : goal.lay-overflow_sub-i
lay-overflow_sub-i t c = repeat_below c.requires.ready c.loop-at.invariant.below c.in-Repeat.is

pub lay-returns-in-Repeat-clause-advances : goal.lay-returns-in-Repeat-clause-advances
lay-returns-in-Repeat-clause-advances t c = walk_advances c.loop-at.invariant c.lay_blocks.result c.lay_blocks.ensures.advances

pub lay-begins-requires-in-Choice : goal.lay-begins-requires-in-Choice
lay-begins-requires-in-Choice t c =
    omega (arith, choice_below c.requires.ready c.loop-at.invariant.below c.in-Choice.is, c.loop-at.invariant.below)

pub lay-loop-at-smaller-then-begins : goal.lay-loop-at-smaller-then-begins
lay-loop-at-smaller-then-begins t c = omega (arith, choice_below c.requires.ready c.loop-at.invariant.below c.in-Choice.is)

pub lay-loop-at-preserved-then-begins : goal.lay-loop-at-preserved-then-begins
lay-loop-at-preserved-then-begins t c =
    walk_left c.loop-at.invariant c.if-not-begins.ensures c.in-Choice.is c.from-left.ensures c.if-begins.ensures

pub lay-overflow_sub-i-else-begins : goal.lay-overflow_sub-i-else-begins
lay-overflow_sub-i-else-begins t c = omega (arith, choice_below c.requires.ready c.loop-at.invariant.below c.in-Choice.is)

pub lay-loop-at-smaller-else-begins : goal.lay-loop-at-smaller-else-begins
lay-loop-at-smaller-else-begins t c = omega (arith, choice_below c.requires.ready c.loop-at.invariant.below c.in-Choice.is)

pub lay-loop-at-preserved-else-begins : goal.lay-loop-at-preserved-else-begins
lay-loop-at-preserved-else-begins t c =
    walk_right c.loop-at.invariant c.if-not-begins.ensures c.in-Choice.is c.from-left.ensures c.if-begins.ensures

pub lay-lay-requires : goal.lay-lay-requires
lay-lay-requires t c =
    let left_below = sequence_below c.requires.ready c.loop-at.invariant.below c.in-Sequence.is in
    let room = leeway_narrow c.from.result (omega arith) c.loop-at.invariant.leeway in
    (omega arith, (c.requires.ready, (omega (arith, c.loop-at.invariant.below), room)))

pub lay-returns-in_err-at-in-Sequence-clause-lays_at : goal.lay-returns-in_err-at-in-Sequence-clause-lays_at
lay-returns-in_err-at-in-Sequence-clause-lays_at t c =
    walk_stuck c.loop-at.invariant c.in-Sequence.is c.from.ensures c.in_err-at-in-Sequence.ensures.lays_at c.from_residual.ensures

pub lay-overflow_sub-i-in-Sequence : goal.lay-overflow_sub-i-in-Sequence
lay-overflow_sub-i-in-Sequence t c = omega (arith, sequence_below c.requires.ready c.loop-at.invariant.below c.in-Sequence.is)

pub lay-loop-at-smaller : goal.lay-loop-at-smaller
lay-loop-at-smaller t c = omega (arith, sequence_below c.requires.ready c.loop-at.invariant.below c.in-Sequence.is)

pub lay-loop-at-preserved : goal.lay-loop-at-preserved
lay-loop-at-preserved t c =
    walk_next c.loop-at.invariant c.in-Sequence.is c.from.ensures c.in_ok-at-in-Sequence.ensures.lays_at c.in_ok-at-in-Sequence.ensures.advances

pub lay_blocks-loop-bounds-init : goal.lay_blocks-loop-bounds-init
lay_blocks-loop-bounds-init t c = blocks_start c.requires.ready c.requires.below c.requires.bounds_at c.requires.leeway

pub lay_blocks-returns-then-not-another-clause-lays_at : goal.lay_blocks-returns-then-not-another-clause-lays_at
lay_blocks-returns-then-not-another-clause-lays_at t c =
    blocks_stop c.loop-bounds.invariant c.may_have.result c.if-not-another.ensures c.may_have.ensures c.then_some.ensures

pub lay_blocks-overflow_add-body : goal.lay_blocks-overflow_add-body
lay_blocks-overflow_add-body t c =
    omega (arith, reach_over c.args.self.now.run.now c.args.i c.loop-bounds.at.event c.loop-bounds.at.item, c.loop-bounds.invariant.leeway.fits)

pub lay_blocks-overflow_sub-i : goal.lay_blocks-overflow_sub-i
lay_blocks-overflow_sub-i t c = some_body c.loop-bounds.invariant

pub lay_blocks-lay-requires : goal.lay_blocks-lay-requires
lay_blocks-lay-requires t c =
    let room = body_leeway c.loop-bounds.invariant c.if-not-another.ensures in (
      omega (arith, some_body c.loop-bounds.invariant),
      (c.requires.ready, (omega (arith, c.requires.below), room)),
    )

pub lay_blocks-returns-in_err-end-clause-lays_at : goal.lay_blocks-returns-in_err-end-clause-lays_at
lay_blocks-returns-in_err-end-clause-lays_at t c =
    blocks_stuck c.loop-bounds.invariant c.if-not-another.ensures c.put.ensures c.in_err-end.ensures.lays_at c.from_residual.ensures

pub lay_blocks-returns-then-end-at-clause-lays_at : goal.lay_blocks-returns-then-end-at-clause-lays_at
lay_blocks-returns-then-end-at-clause-lays_at t c =
    blocks_idle c.loop-bounds.invariant c.if-not-another.ensures c.put.ensures c.in_ok-end.ensures.lays_at c.if-end-at.true

pub lay_blocks-overflow_add-at : goal.lay_blocks-overflow_add-at
lay_blocks-overflow_add-at t c =
    let room = body_leeway c.loop-bounds.invariant c.if-not-another.ensures in
    omega (arith, reach_over c.args.self.now.run.now (c.args.i - 1) c.in_ok-end.end.event c.in_ok-end.end.item, c.in_ok-end.ensures.advances.2, room.fits)

pub lay_blocks-loop-bounds-preserved : goal.lay_blocks-loop-bounds-preserved
lay_blocks-loop-bounds-preserved t c =
    blocks_go c.loop-bounds.invariant c.if-not-another.ensures c.put.ensures c.in_ok-end.ensures.lays_at
    c.in_ok-end.ensures.advances c.if-end-at.false c.put-in-loop-bounds.ensures
