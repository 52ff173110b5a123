-- `record::check` meets its contract, by what was read of the file and what was found of the record. Assumes nothing.
use Rattle.std.proofs.lemmas.Result.{err_from_is_err_and}
use Rattle.meaning.specs.Promises.{Checks}
use Rattle.record.proofs.Answers.{checked}
use Rattle.record.proofs.check.Goals as goal

pub returns-in_err-read : goal.returns-in_err-read
returns-in_err-read c =
    let p = err_from_is_err_and c.from_residual.result c.from_residual.ensures.1 in
    rw (p.1, p.2) (Checks.refused _ c.in_err-read.ensures)

pub returns : goal.returns
returns c = checked c.in_ok-read.ensures c.args.bytes.now c.is_record.result c.is_record.ensures
