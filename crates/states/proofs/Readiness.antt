-- From the tables of a file, and the bytes of a state, to where a run stands. Assumes nothing.
use mathlib.Core.Path.{◌≡◌, ap, subst, ◌∙◌}
use mathlib.Core.Bool.{Bool, true, false}
use mathlib.Core.List.{List, ◌∷◌}
use Prim.Native.Nat.{ℕ, ◌≤◌}
use native.Mathlib.Omega.{arith}
use lib.ListN.{length}
use Rattle.std.specs.Prelude.{Option, Some}
use Rattle.std.specs.Bool.{then_some}
use Rattle.meaning.specs.Expr.{Expr, size, Bounded}
use Rattle.meaning.specs.Promises.{NoneReaches}
use Rattle.meaning.specs.State.{state_bytes}
use Rattle.meaning.specs.Theory.Counts.{Small, repeats}
use Rattle.meaning.specs.Theory.Spots.{Spot, start, behind, Safe}
use Rattle.meaning.specs.Theory.Runs.{spot_state}
use Rattle.meaning.proofs.Expressions.Parts.{root-size}
use Rattle.meaning.proofs.Places.Marks.{node_below}
use Rattle.meaning.proofs.File.Files.{table_bounded}
use Rattle.meaning.proofs.File.Ranks.{repeats_all}
use Rattle.meaning.proofs.General.Twos.{twos_length}
use Rattle.meaning.proofs.State.StateBytes.{table_small}
use Rattle.procedure.specs.Entry.{Nodes, held}
use Rattle.procedure.specs.Listing.{Listing, Tables}
use Rattle.procedure.specs.Tests.{Decides}
use Rattle.states.specs.declared.standing.Standing.{Standing}
use Rattle.states.specs.StateBytes.{Decoded, place_of}
use Rattle.states.specs.Standing.{AtSpot, CanStand, ReadOf, StandsAt}
use Rattle.states.proofs.ReachedBytes.{not_stand_unreached, stood_bytes}

-- ---- what the tables have is bounded, and its counters fit

pub listing_bounded : {nodes : Nodes} {n : ℕ} {e : Expr} → Listing nodes n e → Bounded e
listing_bounded {nodes} {n} {e} l = table_bounded (held nodes) n 0 e l.table (omega (arith, root-size 0 e, l.sized)) l.stands

pub listing_small : {nodes : Nodes} {n : ℕ} {e : Expr} → Listing nodes n e → Small e
listing_small {nodes} {n} {e} l = table_small (held nodes) n 0 e l.table (omega (arith, l.sized)) l.stands

pub tables_repeats : {nodes : Nodes} {starts : List ℕ} {nulls : List Bool} {list : List ℕ} {n r : ℕ} {e : Expr} → Tables nodes starts nulls list n r e → repeats e ≡ r
tables_repeats {nodes} {n = n} {e = e} w = omega (arith, repeats_all (held nodes) n e w.listing.stands w.listing.sized, w.ranked.counted)

-- so bytes that say where no run can stand are reached by none
pub not_stood_unreached : {nodes : Nodes} {starts : List ℕ} {nulls : List Bool} {list : List ℕ} {n r : ℕ} {e : Expr} {bytes : List ℕ} {node : ℕ} {counts : List ℕ}
    → Tables nodes starts nulls list n r e → Decoded bytes node counts → ¬ CanStand e node counts → NoneReaches e bytes
not_stood_unreached {e = e} w =
    not_stand_unreached e (listing_bounded w.listing) (listing_small w.listing) (omega (arith, w.listing.sized, w.listing.few))
    (omega (arith, tables_repeats w, w.few_repeats))

-- ---- the state read

-- where the bytes say where the run stands, and a test whether a run can stand there
pub read_tested : {nodes : Nodes} {starts : List ℕ} {nulls : List Bool} {list : List ℕ} {n r : ℕ} {e : Expr} (w : Tables nodes starts nulls list n r e)
    {bytes : List ℕ} (s : Standing) (b : Bool) → Decoded bytes (place_of s.reached) s.counts → Decides (CanStand e (place_of s.reached) s.counts) b
    → ReadOf e bytes (then_some b s)
read_tested w s true d h = (d, h)
read_tested w s false d h = not_stood_unreached w d h

stood_below : (e : Expr) (k : Spot e) (node n : ℕ) (counts : List ℕ) → size e ≡ n → AtSpot e k node counts → node ≤ n
stood_below e start node n counts same s = omega (arith, s.0)
stood_below e (behind p) node n counts same s = omega (arith, s.0, node_below 0 e p)

decoded_long : {bytes : List ℕ} {node : ℕ} {counts : List ℕ} → Decoded bytes node counts → length bytes ≡ 66
decoded_long {bytes} {node} {counts} d = omega (arith, ap length d.written, twos_length (node ∷ counts), d.long)

pub stood_long : (e : Expr) (k : Spot e) (node : ℕ) (counts : List ℕ) → AtSpot e k node counts → length counts ≡ 32
stood_long e start node counts at = at.1.long
stood_long e (behind p) node counts at = at.1.long

pub read_below : (e : Expr) (bytes : List ℕ) (a : Option Standing) (s : Standing) (n : ℕ) → size e ≡ n → ReadOf e bytes a → a ≡ Some s → place_of s.reached ≤ n
read_below e bytes a s n same told is =
    let t = subst (ReadOf e bytes) is told in
    stood_below e t.1.0 (place_of s.reached) n s.counts same t.1.2

pub read_long : (e : Expr) (bytes : List ℕ) (a : Option Standing) (s : Standing) → ReadOf e bytes a → a ≡ Some s → length bytes ≡ 66
read_long e bytes a s told is = decoded_long (subst (ReadOf e bytes) is told).0

-- the bytes read are those of a spot where a run can stand
pub read_spot : (e : Expr) (bytes : List ℕ) (a : Option Standing) (s : Standing) → repeats e ≤ 32 → ReadOf e bytes a
    → a ≡ Some s → (k : Spot e) × Safe e k × StandsAt e k s × (bytes ≡ state_bytes (spot_state e k))
read_spot e bytes a s few told is =
    let t = subst (ReadOf e bytes) is told in
    let k = t.1.0 in
    let stood = t.1.2 in
    (k, t.1.1, stood, t.0.written ∙ stood_bytes e k (place_of s.reached) s.counts few t.0.long stood)
