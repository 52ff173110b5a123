-- `prompt::light::lit` meets its contract: at the start first of the root is lit.
use Rattle.prompt.proofs.Lighting.{lit_at_start}
use Rattle.prompt.proofs.light.lit.Goals as goal

pub returns-in-None : goal.returns-in-None
returns-in-None c = lit_at_start c.args.firsts.now c.in-None.is c.requires.tells_sets
