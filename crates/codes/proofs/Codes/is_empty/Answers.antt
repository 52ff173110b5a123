-- `Codes::is_empty` meets its contract: a set has no code exactly if both words are 0. Assumes nothing.
use mathlib.Core.Logic.{inl, inr, ⊎_elim}
use native.Mathlib.Omega.{arith}
use borrow.Author.Tests.{eq-eqb, eqb-false, eqb-true, ne_eqb}
use Rattle.std.proofs.Common.{rules}
use Rattle.codes.proofs.Pairs.{any_told, empty_words, none_contains}
use Rattle.codes.proofs.Codes.is_empty.Goals as goal

pub returns-then-self-eq0-clause-none : goal.returns-then-self-eq0-clause-none
returns-then-self-eq0-clause-none c =
    let s = c.args.self in
    let empty = empty_words s (omega arith) (omega arith) in
    (λ h d. none_contains s d c.if-self-eq0.true (search (rules, eqb-true)), λ none. let e = (empty none).1 in search (rules, eq-eqb))

pub returns-then-self-eq0-clause-some : goal.returns-then-self-eq0-clause-some
returns-then-self-eq0-clause-some c =
    let told = any_told c.args.self (omega arith) (omega arith) in (
      λ h. told.0 (inr (search (rules, eqb-false))),
      λ some. ⊎_elim (λ n. absurd (n c.if-self-eq0.true)) (λ n. search (rules, ne_eqb)) (told.1 some),
    )

pub returns-else-self-eq0-clause-none : goal.returns-else-self-eq0-clause-none
returns-else-self-eq0-clause-none c =
    let empty = empty_words c.args.self (omega arith) (omega arith) in
    (λ h. absurd (search (rules, eqb-true)), λ none. let e = (empty none).0 in search (rules, eq-eqb))

pub returns-else-self-eq0-clause-some : goal.returns-else-self-eq0-clause-some
returns-else-self-eq0-clause-some c =
    (λ h. (any_told c.args.self (omega arith) (omega arith)).0 (inl c.if-self-eq0.false), λ some. search (rules, ne_eqb))
