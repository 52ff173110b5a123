-- How a walk over a part goes on and ends: the laws of `lay` and `lay_blocks` in the form that their proofs ask for. Assumes nothing.
use mathlib.Core.Path.{◌≡◌}
use mathlib.Core.Logic.{◌⊎◌, inl, inr}
use mathlib.Core.Bool.{Bool, false}
use mathlib.Core.List.{List}
use Prim.Native.Nat.{ℕ, ◌+◌, ◌-◌, ◌≤◌, ◌<◌}
use native.Mathlib.Omega.{arith}
use lib.ListN.{get_or}
use Rattle.std.specs.Bool.{then_some}
use Rattle.std.specs.Prelude.{Option, Some, None}
use Rattle.meaning.specs.Expr.{Within}
use Rattle.procedure.specs.declared.bounds.Bounds.{Bounds}
use Rattle.procedure.specs.declared.node.Node.TheVariants as entry
use Rattle.procedure.specs.Bounds.{upper}
use Rattle.procedure.specs.Entry.{Entry, kind_of, record_of}
use Rattle.procedure.specs.Tests.{Decides}
use Rattle.record.specs.Put.{put_at}
use Rattle.write.specs.declared.lay.Places.{Places}
use Rattle.write.specs.declared.lay.Source.{Source}
use Rattle.write.specs.Lay.{Advances, Begins, BoundsHere, LaysAt, Leeway, Ready, count_of, run_of}
use Rattle.write.proofs.LaidStays.{DwellsAt, dwell_goes, dwell_starts, dwell_stops, unlaid_body, unlaid_event}
use Rattle.write.proofs.Laying.{choice_below, choice_goes_left, choice_goes_right, entry_of, leaf_lays, pass_by, past_event, past_mark, sequence_below, sequence_goes, sequence_unlaid, some_below}
use Rattle.write.proofs.Reaches.{reach_close, reach_event, reach_narrow, reach_open, reach_wide}

-- ---- how far a walk goes

module _ {run : List ℕ} {i : ℕ} {at : Places} where
  pub leeway_narrow : (j : ℕ) → j ≤ i → Leeway run i at → Leeway run j at
  leeway_narrow j h room = record { short = room.short; inside = room.inside; fits = omega (arith, room.fits, reach_narrow run i at.event at.item j h) }

  pub leeway_further : {to : Places} → Advances run i at (Some to) → Leeway run i at → Leeway run i to
  leeway_further o room = record { short = room.short; inside = o.1; fits = omega (arith, room.fits, o.2) }

-- a walk of a part below goes no further than the part
advances_wide : (run : List ℕ) (i j : ℕ) (at : Places) (r : Option Places) → j ≤ i → Advances run j at r → Advances run i at r
advances_wide run i j at (Some p) h o = (o.0, o.1, reach_wide run i at.event at.item j p.event p.item h o.0 o.2)
advances_wide run i j at None h o = tt

-- a walk that goes on
advances_further : (run : List ℕ) (i : ℕ) (at to : Places) (r : Option Places) → Advances run i at (Some to) → Advances run i to r → Advances run i at r
advances_further run i at to (Some p) h o = (omega (arith, h.0, o.0), o.1, omega (arith, h.2, o.2))
advances_further run i at to None h o = tt

leaf_kind : {n : Entry} → (n ≡ entry.Empty) ⊎ ((c : ℕ) × (n ≡ entry.Event c)) → kind_of (record_of n) < 2
leaf_kind (inl e) = rw e (omega arith)
leaf_kind (inr (c, e)) = rw e (omega arith)

-- ---- a walk over the part of `node`, from these places on

-- it is narrowed to the part of node i and has come to the places `at`: whatever that part lays from here, the whole lays
pub record Walk (a : Source) (space : List ℕ) (node : ℕ) (from : Places) (i : ℕ) (at : Places) (now : List ℕ) : Type 0 where
  pub ready : Ready a
  pub below : i < count_of a
  pub narrower : i ≤ node
  pub leeway : Leeway (run_of a) i at
  pub onward : Advances (run_of a) node from (Some at)
  pub whole : (r : Option Places) (after : List ℕ) → LaysAt a now i at r after → LaysAt a space node from r after

module _ {a : Source} {space now : List ℕ} {node i : ℕ} {from at : Places} (walk : Walk a space node from i at now) where
  -- how a walk from here ends, the whole ends
  pub walk_lays : {r : Option Places} {after : List ℕ} → LaysAt a now i at r after → LaysAt a space node from r after
  walk_lays = walk.whole _ _

  pub walk_advances : (r : Option Places) → Advances (run_of a) i at r → Advances (run_of a) node from r
  walk_advances r o = advances_further (run_of a) node from at r walk.onward (advances_wide (run_of a) node i at r walk.narrower o)

  walk_to : (j : ℕ) → j ≤ i
      → ((r : Option Places) (after : List ℕ) → LaysAt a now j at r after → LaysAt a now i at r after)
      → Walk a space node from j at now
  walk_to j h f = record {
    ready = walk.ready;
    below = omega (arith, walk.below);
    narrower = omega (arith, walk.narrower);
    leeway = leeway_narrow j h walk.leeway;
    onward = walk.onward;
    whole = λ r after laid. walk.whole r after (f r after laid);
  }

  pub walk_passed : {r : Option Places} → ¬ Begins a i at.event → r ≡ then_some (get_or a.procedure.now.nulls i false) at
      → LaysAt a space node from r now
  walk_passed out ends = rw ends (walk_lays (pass_by walk.ready walk.below now at out))

  module _ (next : Begins a i at.event) where
    pub walk_event : Advances (run_of a) node from (Some (past_event at))
    walk_event =
        walk_advances (Some (past_event at)) (omega arith, omega (arith, next.0), reach_event (run_of a) i at.event at.item next.0)

    pub walk_leaf : {after : List ℕ} → (entry_of a i ≡ entry.Empty) ⊎ ((c : ℕ) × (entry_of a i ≡ entry.Event c))
        → after ≡ put_at now at.item i → LaysAt a space node from (Some (past_event at)) after
    walk_leaf told put = rw put (walk_lays (leaf_lays walk.ready walk.below now at next (leaf_kind told)))

    module _ {left right l : ℕ} (told : entry_of a i ≡ entry.Choice left right) (same : l ≡ left) where
      choice_told : entry_of a i ≡ entry.Choice l right
      choice_told = cc

      pub walk_left : Begins a l at.event → Walk a space node from l at now
      walk_left here =
          walk_to l (omega (arith, choice_below walk.ready walk.below choice_told))
          (λ r after laid. choice_goes_left walk.ready walk.below now at next choice_told r after here laid)

      pub walk_right : ¬ Begins a l at.event → Walk a space node from (i - 1) at now
      walk_right out =
          walk_to (i - 1) (omega arith) (λ r after laid. choice_goes_right walk.ready walk.below now at next choice_told r after out laid)

  module _ {left right l : ℕ} (told : entry_of a i ≡ entry.Sequence left right) (same : l ≡ left) where
    sequence_told : entry_of a i ≡ entry.Sequence l right
    sequence_told = cc

    pub walk_stuck : {r : Option Places} {mid : List ℕ} → LaysAt a now l at None mid → r ≡ None → LaysAt a space node from r mid
    walk_stuck {r} {mid} laid ends = rw ends (walk_lays (sequence_unlaid walk.ready walk.below now at sequence_told mid laid))

    pub walk_next : {to : Places} {mid : List ℕ} → LaysAt a now l at (Some to) mid → Advances (run_of a) l at (Some to)
        → Walk a space node from (i - 1) to mid
    walk_next {to} {mid} laid on =
        let wide = advances_wide (run_of a) i l at (Some to) (omega (arith, sequence_below walk.ready walk.below sequence_told)) on in record {
          ready = walk.ready;
          below = omega (arith, walk.below);
          narrower = omega (arith, walk.narrower);
          leeway = leeway_narrow (i - 1) (omega arith) (leeway_further wide walk.leeway);
          onward = walk_advances (Some to) wide;
          whole = λ r after more. walk_lays (sequence_goes walk.ready walk.below now at sequence_told mid laid more);
        }

-- ---- a walk over the blocks of the repeat at node i

-- k blocks are laid, up to the places `at`
pub record Blocks (a : Source) (space : List ℕ) (i : ℕ) (bounds : Bounds) (from : Places) (k : ℕ) (at : Places) (now : List ℕ) : Type 0 where
  pub ready : Ready a
  pub below : i < count_of a
  pub bounded : BoundsHere a i bounds
  pub leeway : Leeway (run_of a) i at
  pub onward : Advances (run_of a) i from (Some at)
  pub few : k ≤ at.event
  pub dwells : DwellsAt a space i from k at now

pub blocks_start : {a : Source} {space : List ℕ} {i : ℕ} {bounds : Bounds} {from : Places} → Ready a → i < count_of a → BoundsHere a i bounds
    → Leeway (run_of a) i from → Blocks a space i bounds from 0 from space
blocks_start ready below bounded room = record {
  ready = ready;
  below = below;
  bounded = bounded;
  leeway = room;
  onward = (omega arith, room.inside, omega arith);
  few = omega arith;
  dwells = dwell_starts;
}

module _ {a : Source} {space now : List ℕ} {i k : ℕ} {bounds : Bounds} {from at : Places} (blocks : Blocks a space i bounds from k at now) where
  -- the body stands before the repeat
  pub some_body : 1 ≤ i
  some_body = some_below blocks.ready blocks.below (omega (arith, blocks.bounded.repeats))

  pub blocks_stop : (may : Bool) {r : Option Places} → ¬ (Begins a i at.event × Within (k + 1) (upper bounds))
      → Decides ((bounds.least ≤ k) × Within k (upper bounds)) may → r ≡ then_some may at → LaysAt a space i from r now
  blocks_stop may out ends e = rw e (dwell_stops blocks.ready blocks.below blocks.bounded blocks.dwells may out ends)

  module _ (begins : Begins a i at.event × Within (k + 1) (upper bounds)) where
    pub body_leeway : Leeway (run_of a) (i - 1) (past_mark at)
    body_leeway = record {
      short = blocks.leeway.short;
      inside = blocks.leeway.inside;
      fits = omega (arith, blocks.leeway.fits, reach_open (run_of a) i at.event at.item some_body begins.0.0);
    }

    module _ {opened after : List ℕ} (opens : opened ≡ put_at now at.item (i + 4096)) where
      pub blocks_stuck : {r : Option Places} → LaysAt a opened (i - 1) (past_mark at) None after → r ≡ None → LaysAt a space i from r after
      blocks_stuck laid e = rw e (unlaid_body blocks.ready blocks.below blocks.bounded blocks.dwells begins.0 begins.1 opens laid)

      module _ {to : Places} (laid : LaysAt a opened (i - 1) (past_mark at) (Some to) after) where
        pub blocks_idle : to.event ≡ at.event → LaysAt a space i from None after
        blocks_idle same = unlaid_event blocks.ready blocks.below blocks.bounded blocks.dwells begins.0 begins.1 opens laid same blocks.leeway.inside

        module _ (on : Advances (run_of a) (i - 1) (past_mark at) (Some to)) (more : ¬ (to.event ≡ at.event)) where
          closes : Advances (run_of a) i at (Some (past_mark to))
          closes =
              let later : at.event < to.event = omega (arith, on.0, more) in
              (omega arith, on.1, reach_close (run_of a) i at.event at.item to.event to.item some_body later on.1 on.2)

          pub blocks_go : {closed : List ℕ} → closed ≡ put_at after to.item (i + 8192)
              → Blocks a space i bounds from (k + 1) (past_mark to) closed
          blocks_go put =
              let later : at.event < to.event = omega (arith, on.0, more) in record {
                ready = blocks.ready;
                below = blocks.below;
                bounded = blocks.bounded;
                leeway = leeway_further closes blocks.leeway;
                onward = advances_further (run_of a) i from at (Some (past_mark to)) blocks.onward closes;
                few = omega (arith, blocks.few);
                dwells = dwell_goes blocks.ready blocks.below blocks.bounded blocks.dwells begins.0 begins.1 opens laid later on.1 put;
              }
