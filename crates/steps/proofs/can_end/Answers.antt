-- `steps::can_end` meets its contract: the climb towards no node ends exactly if the way does. Assumes nothing.
use mathlib.Core.Path.{◌≡◌, refl}
use mathlib.Core.Bool.{true, false}
use native.Mathlib.Nat.{le_refl}
use Rattle.std.proofs.Common.{rules}
use Rattle.steps.specs.declared.climb.Turn.TheVariants.{Ends}
use Rattle.plan.proofs.Beginnings.{past}
use Rattle.steps.proofs.Stepping.{end_by_test}
use Rattle.steps.proofs.can_end.Goals as goal

pub returns : goal.returns
returns c =
    let p = c.args.plan.now in
    let f = p.procedure.now in
    let yes : c.eq.result ≡ true → c.climb.result ≡ Ends = λ e. search rules in
    let no : c.eq.result ≡ false → c.climb.result ≡ Ends → ⊥ = λ e i. search rules in
    λ e at pl here m.
    end_by_test f.nodes f.starts f.nulls p.links.now c.args.counts.now f.count f.count c.args.at _ e at pl here m c.climb.ensures _ (past (le_refl f.count)) refl
    yes no
