-- A table of sets, filled one by one. Assumes nothing.
use mathlib.Core.Path.{◌≡◌, sym, subst}
use mathlib.Core.Logic.{◌↔◌}
use mathlib.Core.List.{List}
use Prim.Native.Nat.{ℕ, ◌+◌, ◌≤◌, ◌<◌}
use native.Mathlib.Omega.{arith}
use borrow.Author.Count.{below_more}
use lib.ListN.{length, get_or, set}
use lib.Seq.{get_or-set_same, get_or-set_other}
use Rattle.codes.specs.Codes.{Codes, Contains, no_codes}
use Rattle.meaning.specs.Expr.{Expr, root}
use Rattle.meaning.specs.Node.{Node, Stands}
use Rattle.sets.specs.Tables.{SetAt, TellsSets}

module _ (P : Expr → ℕ → Type 0) (g : ℕ → Node) (sets : List Codes) where
  pub sets_none : TellsSets P g sets 0
  unfolding TellsSets
  sets_none = λ j l. absurd (omega arith)

  pub sets_more : (i : ℕ) (own : Codes) → i < length sets → TellsSets P g sets i → SetAt P g i own → TellsSets P g (set sets i own) (i + 1)
  unfolding TellsSets
  sets_more i own h known here =
      below_more _ i
      (λ j l. subst (SetAt P g j) (sym (get_or-set_other sets i j own no_codes (omega arith))) (known j l))
      (subst (SetAt P g i) (sym (get_or-set_same sets i own no_codes h)) here)

  -- what it tells of some nodes it tells of fewer
  pub sets_fewer : (m n : ℕ) → m ≤ n → TellsSets P g sets n → TellsSets P g sets m
  unfolding TellsSets
  sets_fewer m n h told = λ j l. told j (omega arith)

  pub set_of_part : (n i s : ℕ) (e : Expr) → TellsSets P g sets n → i < n → Stands g s e → root s e ≡ i → (c : ℕ) → Contains (get_or sets i no_codes) c ↔ P e c
  unfolding TellsSets SetAt
  set_of_part n i s e told l = told i l s e
