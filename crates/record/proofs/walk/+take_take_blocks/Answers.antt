-- Each arm of the walk over a part hands on what it takes by the law of its kind of node, and each end of the walk over the blocks of a repeat
-- by a law of the stay. Assumes nothing.
use Rattle.std.proofs.Common.{◌≡◌, ◌+◌, true, false, ap, arith}
use Rattle.meaning.specs.Node.{node}
use Rattle.procedure.specs.Entry.{held, record_of}
use Rattle.record.proofs.Bytes.{item_named, item_other, item_read, item_there, items_length}
use Rattle.record.proofs.Parts.{body, children, part_null, part_small, repeat_part}
use Rattle.record.proofs.Stays.{stay_starts, stay_goes, stay_stops, stuck_body, stuck_event, stuck_closing}
use Rattle.record.proofs.Walks.{pass_by, empty_eats, event_eats, choice_goes_left, choice_goes_right, sequence_goes, sequence_stuck}
use Rattle.record.proofs.walk.+take_take_blocks.Goals as goal
use Rattle.record.proofs.walk.+take_take_blocks.Goals.{take_blocks-then-next-at-via-then-next-at, take_blocks-then-next-at-via-else-next-at+then-ne}

pub take-returns-then-not-inside-clause-eats_at : goal.take-returns-then-not-inside-clause-eats_at
take-returns-then-not-inside-clause-eats_at t c =
    let l = c.loop-item in
    let v = l.invariant in
    rw c.then_some.ensures
    (v.whole _ (pass_by _ _ _ l.s l.i l.at _ (part_small v.part) (part_null v.part) c.read_item-item.ensures c.if-not-inside.ensures))

pub take-returns-in-Empty-clause-eats_at : goal.take-returns-in-Empty-clause-eats_at
take-returns-in-Empty-clause-eats_at t c =
    let l = c.loop-item in
    let v = l.invariant in
    v.whole _ (empty_eats _ _ l.s l.i l.at (part_small v.part) _ c.read_item-item.ensures c.if-not-inside.ensures (ap record_of c.in-Empty.is))

pub take-overflow_add-at : goal.take-overflow_add-at
take-overflow_add-at t c =
    let l = c.loop-item in
    let there = item_named _ l.at l.s l.i _ c.read_item-item.ensures c.if-not-inside.ensures in
    omega (arith, there.3, items_length c.args.bytes.now)

pub take-returns-in-Event-clause-eats_at : goal.take-returns-in-Event-clause-eats_at
take-returns-in-Event-clause-eats_at t c =
    let l = c.loop-item in
    let v = l.invariant in
    rw c.then_some-in-Event.ensures
    (v.whole _ (event_eats _ _ l.s l.i l.at (part_small v.part) _ c.read_item-item.ensures c.if-not-inside.ensures _ _ (ap record_of c.in-Event.is) c.eq.ensures))

pub take-loop-item-preserved-then-inside : goal.take-loop-item-preserved-then-inside
take-loop-item-preserved-then-inside t c =
    let l = c.loop-item in
    let v = l.invariant in
    let left = c.from-left.result in
    let here : held c.args.procedure.now.nodes l.i ≡ node 2 0 left c.in-Choice.right 0 = rw c.from-left.ensures (ap record_of c.in-Choice.is) in
    let parts = children 2 left _ here (omega arith) (omega arith) v.part in
    record {
      part = parts.first;
      within = v.within;
      onward = v.onward;
      lower = omega arith;
      whole = λ r a. v.whole r (choice_goes_left _ _ l.s l.i l.at left _ (part_small v.part) here _ c.read_item-item.ensures r c.if-inside.ensures a);
    }

pub take-loop-item-preserved-else-inside : goal.take-loop-item-preserved-else-inside
take-loop-item-preserved-else-inside t c =
    let l = c.loop-item in
    let v = l.invariant in
    let left = c.from-left.result in
    let here : held c.args.procedure.now.nodes l.i ≡ node 2 0 left c.in-Choice.right 0 = rw c.from-left.ensures (ap record_of c.in-Choice.is) in
    let parts = children 2 left _ here (omega arith) (omega arith) v.part in
    record {
      part = parts.second;
      within = v.within;
      onward = v.onward;
      lower = omega arith;
      whole = λ r a. v.whole r
          (choice_goes_right _ _ l.s l.i l.at left _ (part_small v.part) here _ c.read_item-item.ensures r c.if-not-inside.ensures c.if-inside.ensures a);
    }

pub take-take-requires : goal.take-take-requires
take-take-requires t c =
    let l = c.loop-item in
    let v = l.invariant in
    let left = c.from-left-in-Sequence.result in
    let here : held c.args.procedure.now.nodes l.i ≡ node 3 0 left c.in-Sequence.right 0 = rw c.from-left-in-Sequence.ensures (ap record_of c.in-Sequence.is) in
    let parts = children 3 left _ here (omega arith) (omega arith) v.part in
    (omega arith, (parts.first, v.within))

pub take-returns-in_err-at-in-Sequence-clause-eats_at : goal.take-returns-in_err-at-in-Sequence-clause-eats_at
take-returns-in_err-at-in-Sequence-clause-eats_at t c =
    let l = c.loop-item in
    let v = l.invariant in
    let left = c.from-left-in-Sequence.result in
    let here : held c.args.procedure.now.nodes l.i ≡ node 3 0 left c.in-Sequence.right 0 = rw c.from-left-in-Sequence.ensures (ap record_of c.in-Sequence.is) in
    rw c.from_residual.ensures (v.whole _ (sequence_stuck _ _ l.s l.i l.at left _ (part_small v.part) here c.in_err-at-in-Sequence.ensures.eats_at))

pub take-loop-item-preserved : goal.take-loop-item-preserved
take-loop-item-preserved t c =
    let l = c.loop-item in
    let v = l.invariant in
    let left = c.from-left-in-Sequence.result in
    let here : held c.args.procedure.now.nodes l.i ≡ node 3 0 left c.in-Sequence.right 0 = rw c.from-left-in-Sequence.ensures (ap record_of c.in-Sequence.is) in
    let parts = children 3 left _ here (omega arith) (omega arith) v.part in
    let went = c.in_ok-at-in-Sequence.ensures in
    record {
      part = parts.second;
      within = went.onward.1;
      onward = omega arith;
      lower = omega arith;
      whole = λ r a. v.whole r (sequence_goes _ _ l.s l.i l.at left _ (part_small v.part) here r c.in_ok-at-in-Sequence.at went.eats_at a);
    }

pub take_blocks-loop-bounds-init : goal.take_blocks-loop-bounds-init
take_blocks-loop-bounds-init t c =
    record {
      onward = omega arith;
      within = c.requires.place_in_bounds;
      counted = omega arith;
      stay = stay_starts _ _ c.args.s c.args.i c.args.place;
    }

pub take_blocks-overflow_add-at : goal.take_blocks-overflow_add-at
take_blocks-overflow_add-at t c =
    let a = c.args in
    let l = c.loop-bounds in
    let opens = item_read _ l.at (a.i + 4096) _ true c.read_item.ensures c.loop-bounds-test.ensures in
    omega (arith, item_there _ l.at (a.i + 4096) opens, items_length a.bytes.now)

pub take_blocks-take-requires : goal.take_blocks-take-requires
take_blocks-take-requires t c =
    let a = c.args in
    let l = c.loop-bounds in
    let opens = item_read _ l.at (a.i + 4096) _ true c.read_item.ensures c.loop-bounds-test.ensures in
    let inner = body c.requires.bounds_at c.requires.part in
    (omega (arith, inner.1), (inner.0, omega (arith, item_there _ l.at (a.i + 4096) opens)))

pub take_blocks-returns-in_err-next-clause-eats_at : goal.take_blocks-returns-in_err-next-clause-eats_at
take_blocks-returns-in_err-next-clause-eats_at t c =
    let a = c.args in
    let l = c.loop-bounds in
    let opens = item_read _ l.at (a.i + 4096) _ true c.read_item.ensures c.loop-bounds-test.ensures in
    rw c.from_residual.ensures
    (stuck_body _ a.place l.k l.at (repeat_part c.requires.bounds_at c.requires.part) l.invariant.stay opens c.in_err-next.ensures.eats_at)

pub take_blocks-returns-then-next-at-clause-eats_at : goal.take_blocks-returns-then-next-at-clause-eats_at
take_blocks-returns-then-next-at-clause-eats_at t c =
    let a = c.args in
    let l = c.loop-bounds in
    let next = c.in_ok-next.next in
    let opens = item_read _ l.at (a.i + 4096) _ true c.read_item.ensures c.loop-bounds-test.ensures in
    let this = repeat_part c.requires.bounds_at c.requires.part in
    elim c.then-next-at.branch [
      | take_blocks-then-next-at-via-then-next-at w ↦
          stuck_event _ a.place l.k l.at this l.invariant.stay opens next w.if-next-at.true c.in_ok-next.ensures.eats_at
      | take_blocks-then-next-at-via-else-next-at+then-ne w ↦
          stuck_closing _ a.place l.k l.at this l.invariant.stay opens next c.in_ok-next.ensures.eats_at
          (item_other _ next (a.i + 8192) _ true w.read_item-else-next-at.ensures w.if-ne.ensures)
    ]

pub take_blocks-overflow_add-at-in-loop-bounds-2 : goal.take_blocks-overflow_add-at-in-loop-bounds-2
take_blocks-overflow_add-at-in-loop-bounds-2 t c =
    let a = c.args in
    let next = c.in_ok-next.next in
    let closes = item_other _ next (a.i + 8192) _ false c.read_item-else-next-at.ensures c.if-ne.ensures in
    omega (arith, item_there _ next (a.i + 8192) closes, items_length a.bytes.now)

pub take_blocks-loop-bounds-preserved : goal.take_blocks-loop-bounds-preserved
take_blocks-loop-bounds-preserved t c =
    let a = c.args in
    let l = c.loop-bounds in
    let next = c.in_ok-next.next in
    let went = c.in_ok-next.ensures in
    let opens = item_read _ l.at (a.i + 4096) _ true c.read_item.ensures c.loop-bounds-test.ensures in
    let closes = item_other _ next (a.i + 8192) _ false c.read_item-else-next-at.ensures c.if-ne.ensures in
    let this = repeat_part c.requires.bounds_at c.requires.part in
    record {
      onward = omega arith;
      within = omega (arith, item_there _ next (a.i + 8192) closes);
      counted = omega arith;
      stay = stay_goes _ a.place l.k l.at this l.invariant.stay opens next went.onward.1 went.eats_at c.if-next-at.false closes;
    }

pub take_blocks-returns-clause-eats_at : goal.take_blocks-returns-clause-eats_at
take_blocks-returns-clause-eats_at t c =
    let a = c.args in
    let l = c.loop-bounds in
    let told = c.requires.bounds_at in
    let inner = body told c.requires.part in
    rw c.then_some.ensures
    (stay_stops _ a.place l.k l.at (repeat_part told c.requires.part) l.invariant.stay _ _ a.bounds (part_null inner.0) told.normal
    (item_read _ l.at (a.i + 4096) _ false c.read_item.ensures c.loop-bounds-test.ensures) c.may_have.ensures)
