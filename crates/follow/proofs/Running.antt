-- From one event to the next: the event nodes of a code in rising order, the events up to the first that does not continue, and how the
-- run then stands. Assumes nothing.
use mathlib.Core.Path.{◌≡◌, sym, ap, subst, ◌∙◌}
use mathlib.Core.Bool.{Bool, true, false, So, true≢false}
use mathlib.Core.List.{List}
use Prim.Native.Nat.{ℕ, ◌+◌, ◌-◌, ◌≤◌, ◌<◌}
use native.Mathlib.Omega.{arith}
use borrow.Author.Count.{below_more}
use lib.ListN.{length, get_or}
use Rattle.std.specs.Prelude.{Option, Some}
use Rattle.meaning.specs.declared.Verdict.TheVariants.{Complete, Unfinished}
use Rattle.meaning.specs.Expr.{Expr, size, root}
use Rattle.meaning.specs.Normal.{nullable}
use Rattle.meaning.specs.Codes.{most_code}
use Rattle.meaning.specs.Node.{node}
use Rattle.meaning.specs.Theory.Places.{Place, node_of, CanEnd}
use Rattle.meaning.specs.Theory.Spots.{Spot, start, behind, CanStop}
use Rattle.meaning.specs.Theory.Runs.{LeadsTo, VerdictAt, complete_at, unfinished_at}
use Rattle.meaning.proofs.Expressions.Parts.{root-size}
use Rattle.meaning.proofs.Places.Ways.{way_ends}
use Rattle.meaning.proofs.File.EventNodes.{stands_part, no_way_stands}
use Rattle.meaning.proofs.Promises.Follows.{Gone, gone_more, gone_done, gone_stuck}
use Rattle.procedure.specs.declared.node.Node.TheVariants as entry
use Rattle.procedure.specs.Entry.{Entry, Nodes, record_of, held, kind_of, code_of}
use Rattle.procedure.specs.Tests.{Decides}
use Rattle.procedure.specs.Listing.{Listing, TellsNulls}
use Rattle.procedure.proofs.Empties.{null_of_part}
use Rattle.procedure.proofs.Nodes.{event_kept}
use Rattle.meaning.specs.Theory.Counts.{Marked, Unmarked}
use Rattle.steps.specs.Step.{Stepped, steps, Started, starts, Ended, ended, open_yet}
use Rattle.steps.specs.Step as step
use Rattle.states.specs.declared.standing.Standing.{Standing}
use Rattle.states.specs.Standing.{AtSpot, StandsAt}
use Rattle.follow.specs.Run.{Tried, leads, Nexted, goes, RanTo, told_code}
use Rattle.follow.specs.Run as run

-- ---- the node of an event

pub record_event : (x : Entry) (c : ℕ) → record_of x ≡ node 1 c 0 0 0 → x ≡ entry.Event c
record_event entry.Empty c same = absurd (omega (arith, ap kind_of same))
record_event (entry.Event d) c same = ap entry.Event (ap code_of same)
record_event (entry.Choice left right) c same = absurd (omega (arith, ap kind_of same))
record_event (entry.Sequence left right) c same = absurd (omega (arith, ap kind_of same))
record_event (entry.Repeat body lower upper) c same = absurd (omega (arith, ap kind_of same))

-- by the table of codes
pub told_event : (x : Entry) (c : ℕ) → told_code x ≡ c → c ≤ most_code → x ≡ entry.Event c
told_event entry.Empty c told small = absurd (omega arith)
told_event (entry.Event d) c told small = ap entry.Event told
told_event (entry.Choice left right) c told small = absurd (omega arith)
told_event (entry.Sequence left right) c told small = absurd (omega arith)
told_event (entry.Repeat body lower upper) c told small = absurd (omega arith)

-- ---- from a spot to one event node

tried_started : {e : Expr} {q : ℕ} {b : Bool} {c d : List ℕ} → Started e q b c d → Tried e start q b c d
tried_started (starts t w n m) = leads t w (ap (λ (i : ℕ). i + 1) (sym n), m)
tried_started (step.Started.stays h) = run.Tried.stays (λ t w. let z : ◌≡◌ {A = ℕ} 0 1 = cc in omega arith)

tried_stepped : {e : Expr} {p : Place e} {q : ℕ} {b : Bool} {c d : List ℕ} → Stepped e p q b c d → Tried e (behind p) q b c d
tried_stepped (steps t w n m) = leads t w (ap (λ (i : ℕ). i + 1) (sym n), m)
tried_stepped (step.Stepped.stays h) = run.Tried.stays h

pub from_start : (e : Expr) (k : Spot e) (q : ℕ) (b : Bool) (c d : List ℕ) → AtSpot e k 0 c → (Unmarked c → Started e q b c d) → Tried e k q b c d
from_start e start q b c d s f = tried_started (f s.1)
from_start e (behind p) q b c d s f = absurd (omega (arith, s.0))

pub from_place : (e : Expr) (k : Spot e) (at q : ℕ) (b : Bool) (c d : List ℕ) → AtSpot e k (at + 1) c
    → ((p : Place e) → node_of 0 e p ≡ at → Marked c e p → Stepped e p q b c d)
    → Tried e k q b c d
from_place e start at q b c d s f = absurd (omega (arith, s.0))
from_place e (behind p) at q b c d s f = tried_stepped (f p (omega (arith, s.0)) s.1)

-- ---- from a spot by an event with the code

-- no event node with the code below q leads on, and the run still stands as it did
pub record Passed (nodes : Nodes) (e : Expr) (k : Spot e) (code q : ℕ) (c d : Standing) : Type 0 where
  pub same : c ≡ d
  pub none : (j : ℕ) → j < q → get_or nodes j entry.Empty ≡ entry.Event code → (t : Place e) → ¬ LeadsTo e k j t

-- node q is no event with the code
pub passed_other : {nodes : Nodes} {e : Expr} {k : Spot e} {code q : ℕ} {c d : Standing} → Passed nodes e k code q c d
    → ¬ (get_or nodes q entry.Empty ≡ entry.Event code) → Passed nodes e k code (q + 1) c d
passed_other {q = q} p other = record { same = p.same; none = below_more _ q p.none (λ h. absurd (other h)) }

-- it is one, and does not lead on
pub passed_stuck : {nodes : Nodes} {e : Expr} {k : Spot e} {code q : ℕ} {c : Standing} (at : Option ℕ) {b : Bool} {d f : List ℕ}
    → Passed nodes e k code q c (record { reached = at; counts = d }) → b ≡ false → Tried e k q b d f
    → Passed nodes e k code (q + 1) c (record { reached = at; counts = f })
passed_stuck at p refused (leads t w s) = absurd (true≢false refused)
passed_stuck {q = q} at p refused (run.Tried.stays never) = record { same = p.same; none = below_more _ q p.none (λ h. never) }

-- it leads on
pub nexted_goes : {nodes : Nodes} {n : ℕ} {e : Expr} {k : Spot e} {code q : ℕ} {b : Bool} {c : Standing} {d f : List ℕ} → Listing nodes n e
    → q < n → get_or nodes q entry.Empty ≡ entry.Event code → b ≡ true → Tried e k q b d f
    → Nexted e k code true c (record { reached = Some q; counts = f })
nexted_goes {nodes} {n} {e} {k} {code} {q} l below here said (leads t w s) =
    goes q t (stands_part (held nodes) 0 e q code l.stands (omega arith) (omega (arith, l.sized)) (ap record_of here)) w s
nexted_goes l below here said (run.Tried.stays never) = absurd (true≢false (sym said))

-- none of the nodes does
pub nexted_stays : {nodes : Nodes} {n : ℕ} {e : Expr} {k : Spot e} {code q : ℕ} {c d : Standing} → Listing nodes n e
    → n ≤ q → Passed nodes e k code q c d
    → Nexted e k code false c d
nexted_stays {nodes} {n} {e} {k} {code} {c = c} l over p =
    subst (Nexted e k code false c) p.same
    (run.Nexted.stays
    (no_way_stands (held nodes) e k code l.stands
    (λ j m w. p.none j (omega (arith, l.sized)) (record_event (get_or nodes j entry.Empty) code w))))

-- no node has a code past the largest
pub nexted_past : {nodes : Nodes} {n : ℕ} {e : Expr} {k : Spot e} {code : ℕ} {c : Standing} → Listing nodes n e → most_code < code
    → Nexted e k code false c c
nexted_past {nodes} {n} {e} {k} {code} l past =
    run.Nexted.stays
    (no_way_stands (held nodes) e k code l.stands
    (λ j m w. absurd (omega (arith, event_kept (held nodes j) (l.table j (omega (arith, l.sized))) (ap kind_of w), ap code_of w))))

-- ---- the events

-- so many are taken, and so the run stands
pub record Along (e : Expr) (k : Spot e) (events : List ℕ) (taken : ℕ) (s : Standing) : Type 0 where
  pub spot : Spot e
  pub gone : Gone e k events taken spot
  pub stood : StandsAt e spot s

pub along_more : {e : Expr} {k : Spot e} {events : List ℕ} {taken code : ℕ} {b : Bool} {c d : Standing} → (a : Along e k events taken c) → taken < length events
    → get_or events taken 0 ≡ code → b ≡ true → Nexted e a.spot code b c d
    → Along e k events (taken + 1) d
along_more {e} {k} {events} {taken} {code} a l here said (goes q t p w s) =
    record { spot = behind t; gone = gone_more e k a.spot events taken code q t a.gone l here p w; stood = s }
along_more a l here said (run.Nexted.stays never) = absurd (true≢false (sym said))

pub ran_stuck : {e : Expr} {k : Spot e} {events : List ℕ} {taken code : ℕ} {b : Bool} {c d : Standing} → (a : Along e k events taken c) → taken < length events
    → get_or events taken 0 ≡ code → b ≡ false → Nexted e a.spot code b c d
    → RanTo e k events taken d
ran_stuck a l here said (goes q t p w s) = absurd (true≢false said)
ran_stuck {e} {k} {events} {taken} {code} a l here said (run.Nexted.stays never) =
    record { spot = a.spot; going = gone_stuck e k a.spot events taken code a.gone l here never; stood = a.stood }

pub ran_all : {e : Expr} {k : Spot e} {events : List ℕ} {taken : ℕ} {s : Standing} → Along e k events taken s → taken ≡ length events
    → RanTo e k events (length events) s
ran_all {e} {k} {events} {taken} {s} a all =
    subst (λ (t : ℕ). RanTo e k events t s) all
    (record { spot = a.spot; going = gone_done e k a.spot events taken a.gone (omega arith); stood = a.stood })

-- ---- how the run stands

pub stop_start : (nodes : Nodes) (nulls : List Bool) (n : ℕ) (e : Expr) (k : Spot e) (c : List ℕ) → Listing nodes n e
    → TellsNulls (held nodes) nulls n → AtSpot e k 0 c → Decides (CanStop e k) (get_or nulls (n - 1) false)
stop_start nodes nulls n e start c l told s =
    let last : root 0 e ≡ n - 1 = omega (arith, root-size 0 e, l.sized) in
    let here = null_of_part (held nodes) nulls n 0 e told l.stands (omega (arith, root-size 0 e, l.sized)) in
    go (get_or nulls (n - 1) false) (nullable e) (ap (λ (i : ℕ). get_or nulls i false) (sym last) ∙ here)
  where
    go : (b d : Bool) → b ≡ d → Decides (So d) b
    go true d f = sym f
    go false d f = λ g. true≢false (sym g ∙ sym f)
stop_start nodes nulls n e (behind p) c l told s = absurd (omega (arith, s.0))

decides_ended : (n : ℕ) (e : Expr) (p : Place e) (b : Bool) → size e ≡ n → Ended n e p b → Decides (CanEnd e p) b
decides_ended n e p b l (ended h) = (way_ends 0 e p n (omega arith)).0 h
decides_ended n e p b l (open_yet h) = λ g. h ((way_ends 0 e p n (omega arith)).1 g)

pub stop_place : (n : ℕ) (e : Expr) (k : Spot e) (at : ℕ) (b : Bool) (c : List ℕ) → size e ≡ n → AtSpot e k (at + 1) c
    → ((p : Place e) → node_of 0 e p ≡ at → Marked c e p → Ended n e p b)
    → Decides (CanStop e k) b
stop_place n e start at b c l s f = absurd (omega (arith, s.0))
stop_place n e (behind p) at b c l s f = decides_ended n e p b l (f p (omega (arith, s.0)) s.1)

pub stands_complete : (e : Expr) (k : Spot e) (t n : ℕ) (b : Bool) → t ≤ n → n ≤ t → b ≡ true → Decides (CanStop e k) b → VerdictAt e k t n Complete
stands_complete e k t n b l m said d = complete_at (omega arith) (subst (Decides (CanStop e k)) said d)

pub stands_unfinished : (e : Expr) (k : Spot e) (t n : ℕ) (b : Bool) → t ≤ n → n ≤ t → b ≡ false → Decides (CanStop e k) b → VerdictAt e k t n Unfinished
stands_unfinished e k t n b l m said d = unfinished_at (omega arith) (subst (Decides (CanStop e k)) said d)
