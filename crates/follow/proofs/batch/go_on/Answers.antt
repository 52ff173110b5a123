-- `follow::batch::go_on` meets its contract. Assumes nothing.
use native.Mathlib.Omega.{arith}
use Rattle.std.proofs.lemmas.Result.{err_from_is_err_and}
use Rattle.states.proofs.Readiness.{read_below, read_long, tables_repeats}
use Rattle.follow.proofs.Following.{went_nowhere, went_far}
use Rattle.follow.proofs.batch.go_on.Goals as goal

pub returns-in_err-standing : goal.returns-in_err-standing
returns-in_err-standing c =
    let p = err_from_is_err_and c.from_residual.result c.from_residual.ensures.1 in
    λ e w. rw (p.1, p.2) (went_nowhere e c.args.bytes.now c.args.events.now _ _ (c.read_state.ensures e w) c.in_err-standing.ensures.value)

pub run-taken-requires : goal.run-taken-requires
run-taken-requires c =
    let e = c.requires.0 in
    let w = c.requires.1 in
    rw c.fill-plan.ensures.same
    (read_below e c.args.bytes.now _ _ _ w.listing.sized (c.read_state.ensures e w) c.in_ok-standing.ensures.ok_part)

pub encode-requires-clause-bytes_len : goal.encode-requires-clause-bytes_len
encode-requires-clause-bytes_len c =
    read_long c.requires.0 c.args.bytes.now _ _ (c.read_state.ensures c.requires.0 c.requires.1) c.in_ok-standing.ensures.ok_part

pub returns : goal.returns
returns c =
    λ e w.
    let planned = c.fill-plan.ensures.plans e w in
    went_far e c.args.bytes.now c.args.events.now _ _ _ _ _ _ (omega (arith, tables_repeats w, w.few_repeats)) (c.read_state.ensures e w) c.in_ok-standing.ensures.ok_part
    (λ k s. c.run-taken.ensures.ran_to e k planned s)
    (λ k s. c.verdict-verdict.ensures e k planned s)
    c.encode.ensures
