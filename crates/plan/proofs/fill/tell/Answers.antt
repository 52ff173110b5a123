-- `plan::fill::tell` meets its contract: the link has the numbers told.
use mathlib.Core.Path.{refl}
use Rattle.plan.proofs.Links.{told_at}
use Rattle.plan.proofs.fill.tell.Goals as goal

pub returns : goal.returns
returns c = told_at c.args.links.now c.args.c _ c.requires.above_bound c.requires.begins_bound refl refl refl
