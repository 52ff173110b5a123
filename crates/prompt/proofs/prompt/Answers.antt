-- `prompt::prompt` meets its contract: what bars the file refuses the prompt.
use Rattle.std.proofs.lemmas.Result.{err_from_is_err_and}
use Rattle.meaning.specs.Promises.{Prompts}
use Rattle.prompt.proofs.prompt.Goals as goal

pub returns-in_err-admit : goal.returns-in_err-admit
returns-in_err-admit c =
    let p = err_from_is_err_and c.from_residual.result c.from_residual.ensures.1 in rw (p.1, p.2) (Prompts.refused _ c.in_err-admit.ensures)
