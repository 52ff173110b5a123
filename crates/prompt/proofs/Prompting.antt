-- From an admitted file and the bytes of a state to the answer of Prompt. Assumes nothing.
use mathlib.Core.Path.{◌≡◌, refl, sym, ap, subst, subst₂, ◌∙◌}
use mathlib.Core.Logic.{◌↔◌}
use mathlib.Core.List.{List}
use Prim.Native.Nat.{ℕ, ◌^◌, ◌<◌}
use native.Mathlib.Omega.{arith}
use Rattle.std.proofs.Common.{None, Ok, Option, Some}
use Rattle.meaning.specs.declared.Words.{Words}
use Rattle.meaning.specs.Codes.{SetInWords}
use Rattle.meaning.specs.Bytes.{two_at}
use Rattle.meaning.specs.Expr.{Expr}
use Rattle.meaning.specs.File.{Admitted}
use Rattle.meaning.specs.Promises.{Lights, Prompts}
use Rattle.meaning.specs.Theory.Places.{code_at, node_of}
use Rattle.meaning.specs.Theory.Spots.{Spot, start, behind}
use Rattle.meaning.proofs.General.Twos.{first_two}
use Rattle.meaning.proofs.File.EventNodes.{part_stands}
use Rattle.meaning.proofs.Places.Directly.{place_part}
use Rattle.meaning.proofs.Places.Marks.{node_below}
use Rattle.meaning.proofs.State.StateBytes.{bytes_reached_iff}
use Rattle.codes.specs.Codes.{Codes, Contains}
use Rattle.codes.proofs.Pairs.{words_set}
use Rattle.procedure.specs.declared.Procedure.{Procedure}
use Rattle.procedure.specs.Entry.{held, kind_of}
use Rattle.procedure.specs.Opening.{IsOf}
use Rattle.procedure.proofs.Nodes.{event_kept}
use Rattle.plan.specs.declared.Plan.{Plan}
use Rattle.plan.specs.Plan.{PlanOf}
use Rattle.states.specs.declared.standing.Standing.{Standing}
use Rattle.states.specs.StateBytes.{Decoded, place_of}
use Rattle.states.specs.Standing.{AtSpot, ReadOf}
use Rattle.states.proofs.Readiness.{listing_bounded, read_spot, tables_repeats}
use Rattle.prompt.specs.Near.{Coded, EventReached, LitAt}

-- ---- the state read

module _ {p : Procedure} {e : Expr} (is : IsOf p e) where
  -- what was read keeps to the table
  pub codes_kept : Coded p
  codes_kept i h = event_kept (held p.nodes i) (is.listing.table i h)

  stood_event : (k : Spot e) (reached : Option ℕ) (counts : List ℕ) → AtSpot e k (place_of reached) counts → EventReached p reached
  stood_event k None counts s = tt
  stood_event start (Some i) counts s = absurd (omega (arith, s.0))
  stood_event (behind t) (Some i) counts s =
      let here : i ≡ node_of 0 e t = omega (arith, s.0) in (
        omega (arith, node_below 0 e t, is.listing.sized),
        ap (λ (j : ℕ). kind_of (held p.nodes j)) here ∙ ap kind_of (part_stands (held p.nodes) 0 e (node_of 0 e t) (code_at e t) is.listing.stands (place_part 0 e t)),
      )

  -- what was read was reached
  pub read_event : (bytes : List ℕ) (s : Standing) → ReadOf e bytes (Some s) → EventReached p s.reached
  read_event bytes s told = stood_event told.1.0 s.reached s.counts told.1.2

-- the first two bytes hold the place
decoded_place : {bytes : List ℕ} {place : ℕ} {counts : List ℕ} → Decoded bytes place counts → place ≡ two_at bytes 0
decoded_place {bytes} {place} {counts} d = sym (ap (λ (x : List ℕ). two_at x 0) d.written ∙ first_two place counts d.narrow)

-- ---- the answer

-- a run reaches the state, and the codes are lit
pub prompts_lit : {plan : Plan} (f bytes : List ℕ) (e : Expr) (s : Standing) (set : Codes) (w : Words) → set.low < 2 ^ 64 → set.high < 2 ^ 64
    → Admitted f e → IsOf plan.procedure.now e → PlanOf plan e → ReadOf e bytes (Some s)
    → LitAt plan (place_of s.reached) set → w.low ≡ set.low → w.high ≡ set.high → Prompts f bytes (Ok w)
prompts_lit f bytes e s set w low high admitted is planned told lit l h =
    let came = read_spot e bytes (Some s) s (omega (arith, tables_repeats is, is.few_repeats)) told refl in
    let run = (bytes_reached_iff e (listing_bounded is.listing) bytes).1 (came.0, came.1, came.3) in
    let same = decoded_place told.0 in
    Prompts.lit e run.0 w.low w.high admitted run.1
    (subst₂ (SetInWords (Lights e (two_at bytes 0))) (sym l) (sym h)
    (words_set set low high (subst (λ (i : ℕ). (c : ℕ) → Contains set c ↔ Lights e i c) same (lit.holds e planned))))
