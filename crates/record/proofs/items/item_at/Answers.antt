-- `record::items::item_at` meets its contract, by where the items stand in the bytes. Assumes nothing.
use mathlib.Core.Path.{sym, ap, ◌∙◌}
use native.Mathlib.Omega.{arith}
use Rattle.std.specs.Prelude.{Some}
use Rattle.record.proofs.Bytes.{item_in, item_past}
use Rattle.record.proofs.items.item_at.Goals as goal

pub returns-then-at-bytes : goal.returns-then-at-bytes
returns-then-at-bytes c = let a = c.args in ap Some (c.from.ensures ∙ c.two_at.ensures) ∙ sym (item_in a.bytes.now a.at (omega arith))

pub returns : goal.returns
returns c = let a = c.args in sym (item_past a.bytes.now a.at (omega arith))
