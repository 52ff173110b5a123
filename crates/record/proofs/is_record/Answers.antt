-- `record::is_record` meets its contract, by what the walk over the root takes of the items. Assumes nothing.
use Rattle.std.proofs.Common.{arith}
use Rattle.procedure.proofs.Nodes.{listing_some}
use Rattle.record.proofs.Answers.{odd_no, walked}
use Rattle.record.proofs.Parts.{whole_part}
use Rattle.record.proofs.is_record.Goals as goal

pub overflow_sub-procedure : goal.overflow_sub-procedure
overflow_sub-procedure c = listing_some c.requires.listing.1

pub take-requires-clause-part : goal.take-requires-clause-part
take-requires-clause-part c = whole_part c.requires.listing.1 c.requires.tells_nulls

pub returns-then-bytes-eq0 : goal.returns-then-bytes-eq0
returns-then-bytes-eq0 c =
    let p = c.args.procedure.now in
    walked p.nodes p.count c.args.bytes.now c.take.result c.eq.result c.if-bytes-eq0.true (λ k. omega (arith, c.type_inv.bytes k))
    c.take.ensures.onward c.take.ensures.eats_at c.eq.ensures

pub returns-else-bytes-eq0 : goal.returns-else-bytes-eq0
returns-else-bytes-eq0 c = let p = c.args.procedure.now in odd_no p.nodes p.count c.args.bytes.now c.if-bytes-eq0.false
