-- `write::write` meets its contract, by what becomes of the file and then of the run. Assumes nothing.
use Rattle.std.proofs.lemmas.Result.{err_from_is_err_and}
use Rattle.meaning.specs.Promises.{Writes}
use Rattle.write.proofs.write.Goals as goal

pub returns-in_err-admit : goal.returns-in_err-admit
returns-in_err-admit c =
    let p = err_from_is_err_and c.from_residual.result c.from_residual.ensures.1 in
    rw (p.1, p.2) (Writes.refused _ c.in_err-admit.ensures)
