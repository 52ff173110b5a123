-- The codes to light: those of the event nodes that are near, and first at the start. Assumes nothing.
use mathlib.Core.Path.{◌≡◌, sym, ap, subst, ◌∙◌}
use mathlib.Core.Logic.Iff
use mathlib.Core.Logic.{◌↔◌, ◌⊎◌, inl, inr, ⊎_elim}
use mathlib.Core.Bool.{Bool, true, false, false≢true}
use mathlib.Core.List.{List}
use Prim.Native.Nat.{ℕ, suc, ◌+◌, ◌-◌, ◌≤◌, ◌<◌}
use native.Mathlib.Decide.{dec_le}
use native.Mathlib.Numerals.{add-one}
use native.Mathlib.Omega.{arith}
use lib.ListN.{get_or}
use Rattle.std.proofs.Common.{None, Option}
use Rattle.codes.specs.Codes.{Codes, Contains, no_codes}
use Rattle.meaning.specs.Expr.{Expr, event, Part}
use Rattle.meaning.specs.Node.{node}
use Rattle.meaning.specs.Promises.{Lights}
use Rattle.meaning.specs.Sets.{First}
use Rattle.meaning.specs.Theory.Near.{Near}
use Rattle.meaning.specs.Theory.Places.{Place, node_of}
use Rattle.meaning.proofs.Places.Directly.{part_place}
use Rattle.meaning.proofs.File.EventNodes.{part_stands, stands_part}
use Rattle.meaning.proofs.Expressions.FirstWorded.{first_iff_worded}
use Rattle.meaning.proofs.Places.Loosened.{lights_iff_near}
use Rattle.meaning.proofs.Expressions.Parts.{root-size, part_within}
use Rattle.procedure.specs.declared.node.Node.TheVariants as entry
use Rattle.procedure.specs.Entry.{held, kind_of, code_of}
use Rattle.sets.specs.Tables.{TellsSets}
use Rattle.sets.proofs.Tables.{set_of_part}
use Rattle.plan.specs.declared.Plan.{Plan}
use Rattle.plan.specs.Plan.{PlanOf}
use Rattle.states.specs.StateBytes.{place_of}
use Rattle.states.proofs.Readiness.{listing_bounded}
use Rattle.prompt.specs.Near.{TellsNear, CodeNear, CodesNear, LitAt}
use Rattle.prompt.proofs.EventNodes.{event_of, node_event}

-- ---- one node

module _ {plan : Plan} {p q : ℕ} (set : Codes) where
  pub code_near : (code own : ℕ) → q < plan.procedure.now.count → held plan.procedure.now.nodes q ≡ node 1 code 0 0 0
      → {r : Bool} → TellsNear plan p q r → r ≡ true → own ≡ code → ((c : ℕ) → Contains set c ↔ (c ≡ own)) → CodeNear plan p q set
  code_near code own l here w yes_near same_code only = record {
    holds =
        λ e t pl same c. (
          λ h. (
            (w.tells e t pl same).0 yes_near,
            subst (λ (d : ℕ). Part 0 e q (event d)) (sym ((only c).0 h ∙ same_code))
                (stands_part (held plan.procedure.now.nodes) 0 e q code pl.listing.stands (omega arith) (omega (arith, pl.listing.sized)) here),
          ),
          λ f. (only c).1 (ap code_of (sym (part_stands (held plan.procedure.now.nodes) 0 e q c pl.listing.stands f.1) ∙ here) ∙ sym same_code),
        );
  }

  pub code_not_near : {r : Bool} → TellsNear plan p q r → r ≡ false → ((c : ℕ) → ¬ Contains set c) → CodeNear plan p q set
  code_not_near w not_near none = record {
    holds = λ e t pl same c. (λ h. absurd (none c h), λ f. absurd (false≢true (sym not_near ∙ (w.tells e t pl same).1 f.0)));
  }

  pub code_of_none : ((c : ℕ) → ¬ (get_or plan.procedure.now.nodes q entry.Empty ≡ entry.Event c)) → ((c : ℕ) → ¬ Contains set c)
      → CodeNear plan p q set
  code_of_none other none = record {
    holds =
        λ e t pl same c.
        (λ h. absurd (none c h), λ f. absurd (other c (event_of _ c (part_stands (held plan.procedure.now.nodes) 0 e q c pl.listing.stands f.1))));
  }

-- ---- the nodes passed

pub codes_none : {plan : Plan} {p : ℕ} {set : Codes} → ((c : ℕ) → ¬ Contains set c) → CodesNear plan p 0 set
codes_none none = record { holds = λ e t pl same c. (λ h. absurd (none c h), λ f. absurd (omega (arith, f.1))) }

pub codes_more : {plan : Plan} {p i : ℕ} {set own : Codes} (all : Codes) → CodesNear plan p i set → CodeNear plan p i own
    → ((c : ℕ) → Contains all c ↔ (Contains set c ⊎ Contains own c)) → CodesNear plan p (i + 1) all
codes_more {plan} {p} {i} {set} {own} all below here either = record {
  holds =
      λ e t pl same c. (
        λ h. ⊎_elim
            (λ w. let f = (below.holds e t pl same c).0 w in (f.0, omega (arith, f.1), f.2, f.3))
            (λ w. let f = (here.holds e t pl same c).0 w in (i, omega arith, f.0, f.1))
            ((either c).0 h),
        λ f. (either c).1 (side e t pl same c f (dec_le i f.0)),
      );
}
  where
    side : (e : Expr) (t : Place e) → PlanOf plan e → node_of 0 e t ≡ p → (c : ℕ)
        → (f : (q : ℕ) × (q < i + 1) × Near 0 e t q × Part 0 e q (event c)) → Dec (i ≤ f.0) → Contains set c ⊎ Contains own c
    side e t pl same c f (yes l) =
        let last : f.0 ≡ i = omega (arith, f.1) in
        inr ((here.holds e t pl same c).1 (subst (λ (j : ℕ). Near 0 e t j) last f.2, subst (λ (j : ℕ). Part 0 e j (event c)) last f.3))
    side e t pl same c f (no l) = inl ((below.holds e t pl same c).1 (f.0, omega arith, f.2, f.3))

-- ---- the codes lit

pub lit_after : {plan : Plan} {p : ℕ} (set : Codes) → p < plan.procedure.now.count → kind_of (held plan.procedure.now.nodes p) ≡ 1
    → CodesNear plan p plan.procedure.now.count set → LitAt plan (p + 1) set
lit_after {plan} {p} set l k near = subst (λ (i : ℕ). LitAt plan i set) (sym (add-one p)) (record { holds = λ e pl c. both e pl c })
  where
    both : (e : Expr) → PlanOf plan e → (c : ℕ) → Contains set c ↔ Lights e (suc p) c
    both e pl c =
        let h = listing_bounded pl.listing in
        let w = node_event plan.procedure.now.nodes e pl.listing.stands p (omega (arith, pl.listing.sized)) k in
        let t = part_place 0 e h p (code_of (held plan.procedure.now.nodes p)) w in
        let lit = lights_iff_near e h t.0 c in
        let there = near.holds e t.0 pl t.2 c in (
          λ w. let f = there.0 w in subst (λ (i : ℕ). Lights e (suc i) c) t.2 (lit.1 (f.0, f.2, f.3)),
          λ w.
              let f = lit.0 (subst (λ (i : ℕ). Lights e (suc i) c) (sym t.2) w) in
              let within = part_within 0 e f.0 (event c) f.2 in
              there.1 (f.0, omega (arith, within.1, pl.listing.sized), f.1, f.2),
        )

-- first of the root, where nothing was reached
pub lit_at_start : {plan : Plan} {reached : Option ℕ} (firsts : List Codes) → reached ≡ None
    → TellsSets First (held plan.procedure.now.nodes) firsts plan.procedure.now.count
    → LitAt plan (place_of reached) (get_or firsts (plan.procedure.now.count - 1) no_codes)
lit_at_start {plan} firsts none told =
    subst (λ (o : Option ℕ). LitAt plan (place_of o) (get_or firsts (plan.procedure.now.count - 1) no_codes)) (sym none)
    record {
      holds =
          λ e pl c.
          let last = root-size 0 e in
          let here = pl.listing.sized in
          Iff.trans (set_of_part First (held plan.procedure.now.nodes) firsts _ _ 0 e told (omega arith) pl.listing.stands (omega arith) c)
          (first_iff_worded e (listing_bounded pl.listing) c);
    }
