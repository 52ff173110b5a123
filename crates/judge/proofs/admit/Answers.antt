-- `judge::admit` meets its contract: what was read is admitted where no conflict is found in it. Assumes nothing.
use Rattle.judge.proofs.Admissions.{entered}
use Rattle.judge.proofs.admit.Goals as goal

pub returns-in-None : goal.returns-in-None
returns-in-None c = entered _ c.read.new.self c.in_ok-read.ensures _ c.in-None.ensures.tells_sets c.in-None.ensures.lowest
