-- `procedure::Procedure::read` meets its contract: the tests in the order of the table, each by the law that says what it found of the
-- file. Assumes nothing.
use Rattle.std.proofs.lemmas.Result.{err_from_is_err_and}
use Rattle.meaning.specs.File.{Framed, by_letters, by_measures, by_size}
use Rattle.procedure.proofs.Openings.{filled, found_ordered, order_refused, record_refused, repeats_refused}
use Rattle.procedure.proofs.Procedure.read.Goals as goal

pub returns-then-not-sized : goal.returns-then-not-sized
returns-then-not-sized c = by_size c.if-not-sized.ensures

pub returns-then-not-lettered : goal.returns-then-not-lettered
returns-then-not-lettered c = by_letters c.if-not-sized.ensures c.if-not-lettered.ensures

pub returns-then-not-measured : goal.returns-then-not-measured
returns-then-not-measured c = by_measures c.if-not-sized.ensures c.if-not-lettered.ensures c.if-not-measured.ensures

pub returns-in_err-read_nodes : goal.returns-in_err-read_nodes
returns-in_err-read_nodes c =
    let p = err_from_is_err_and c.from_residual.result c.from_residual.ensures.1 in
    let framed : Framed c.args.file.now = (c.if-not-sized.ensures, c.if-not-lettered.ensures, c.if-not-measured.ensures) in
    rw (p.1, p.2) (record_refused _ _ _ framed c.count_of-n.ensures.value c.in_err-read_nodes.ensures)

pub returns-in_err-find_starts : goal.returns-in_err-find_starts
returns-in_err-find_starts c =
    let p = err_from_is_err_and c.from_residual-in_err-find_starts.result c.from_residual-in_err-find_starts.ensures.1 in
    let framed : Framed c.args.file.now = (c.if-not-sized.ensures, c.if-not-lettered.ensures, c.if-not-measured.ensures) in
    rw (p.1, p.2) (order_refused _ _ _ framed c.count_of-n.ensures.value c.in_ok-read_nodes.ensures c.in_err-find_starts.ensures)

pub list_repeats-requires-clause-ordered_below : goal.list_repeats-requires-clause-ordered_below
list_repeats-requires-clause-ordered_below c = found_ordered c.in_ok-find_starts.ensures

pub returns-in-Err : goal.returns-in-Err
returns-in-Err c =
    let framed : Framed c.args.file.now = (c.if-not-sized.ensures, c.if-not-lettered.ensures, c.if-not-measured.ensures) in
    repeats_refused _ _ _ framed c.count_of-n.ensures.value c.in_ok-read_nodes.ensures c.in_ok-find_starts.ensures c.in-Err.ensures

pub returns : goal.returns
returns c =
    let framed : Framed c.args.file.now = (c.if-not-sized.ensures, c.if-not-lettered.ensures, c.if-not-measured.ensures) in
    filled _ _ _ framed c.count_of-n.ensures.value c.in_ok-read_nodes.ensures c.in_ok-find_starts.ensures c.in-Ok.ensures
