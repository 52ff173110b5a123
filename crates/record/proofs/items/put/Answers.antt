-- `record::items::put` meets its contract. Assumes nothing.
use mathlib.Core.Path.{◌∙◌}
use native.Mathlib.Omega.{arith}
use Rattle.record.proofs.Puts.{put_fits, put_past}
use Rattle.record.proofs.items.put.Goals as goal

pub returns-then-at-space : goal.returns-then-at-space
returns-then-at-space c =
    let a = c.args in
    c.put_two.ensures ∙ put_fits a.space.now a.at a.item (omega arith)

pub returns-else-at-space : goal.returns-else-at-space
returns-else-at-space c = let a = c.args in put_past a.space.now a.at a.item (omega arith)
