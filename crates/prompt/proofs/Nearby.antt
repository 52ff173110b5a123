-- The way up in the plan, without counters, finds exactly the event nodes that are near. Assumes nothing.
use mathlib.Core.Path.{◌≡◌, refl, sym, ap, ap₂, subst, ◌∙◌}
use mathlib.Core.Logic.{◌↔◌, inl, inr}
use mathlib.Core.Bool.{Bool, true, false, cond, ◌&&◌, So, false≢true}
use mathlib.Core.List.{List}
use Prim.Native.Nat.{ℕ, ◌+◌, ◌-◌, ◌≤◌, ◌<◌}
use native.Mathlib.Omega.{arith}
use borrow.Author.Tests.{le-leb, lt-leb}
use lib.Dec.{eqb}
use lib.ListN.{get_or}
use Rattle.meaning.specs.Expr.{Expr, empty, event, choice, sequence, repeat, Upper, upto, endless, Within, size, root}
use Rattle.meaning.specs.Loose.{many}
use Rattle.meaning.specs.Node.{Node, Stands}
use Rattle.meaning.specs.Normal.{nullable}
use Rattle.meaning.specs.Theory.Near.{there, near}
use Rattle.meaning.specs.Theory.Places.{Place, node_of}
use Rattle.meaning.specs.Theory.Ways.{Entry, enters, apart, entry, Way, turns, ends, stuck, map_way, turn_or, climb, Turned}
use Rattle.meaning.proofs.Expressions.Parts.{root-size}
use Rattle.procedure.specs.Entry.{Nodes, held, kind_of}
use Rattle.procedure.specs.Listing.{TellsNulls, TellsStarts}
use Rattle.procedure.specs.Tests.{Decides}
use Rattle.procedure.proofs.Empties.{null_of_part}
use Rattle.procedure.proofs.Orders.{start_of_part}
use Rattle.plan.specs.declared.Plan.{Plan}
use Rattle.plan.specs.Link.{Links}
use Rattle.plan.specs.Plan.{above_at, top, Planned, begins_of}
use Rattle.prompt.specs.Near.{may_turn, turns_at, passes_at, TellsNear}
use Rattle.plan.proofs.Beginnings.{BeginsWith, does, does_not, Target, at, begins_by_test}

-- the way up from node x, that node included, turns towards event node q or does not
pub data Nears (plan : Plan) (q : ℕ) : ℕ → Bool → Type 0 where
  over : {x : ℕ} → plan.procedure.now.count ≤ x → Nears plan q x false
  here : {x : ℕ} → x < plan.procedure.now.count → turns_at plan x q ≡ true → Nears plan q x true
  shut : {x : ℕ} → x < plan.procedure.now.count → turns_at plan x q ≡ false → passes_at plan.procedure.now x ≡ false → Nears plan q x false
  on : {x : ℕ} {r : Bool} → x < plan.procedure.now.count → turns_at plan x q ≡ false → passes_at plan.procedure.now x ≡ true → Nears plan q (above_at plan.links.now x) r
      → Nears plan q x r

-- an entry is there, or not, by a test
data Opens {A : Type 0} : Entry A → Bool → Type 0 where
  open_at : (a : A) → Opens (enters a) true
  closed : Opens apart false

opens_begins : {s : ℕ} {e : Expr} {q : ℕ} {b : Bool} → BeginsWith s e q b → Opens (entry s e q) b
opens_begins (does t h c m) = rw h (open_at t)
opens_begins (does_not h) = rw h closed

opens_behind : {A : Type 0} {y : Entry A} {b : Bool} (d : Bool) → Opens y b → Opens (cond d y apart) (b && d)
opens_behind true (open_at a) = open_at a
opens_behind false (open_at a) = closed
opens_behind true closed = closed
opens_behind false closed = closed

-- the test for a second block
pub again_many : (upper : Upper) (b : Bool) → Decides (Within 2 upper) b → b ≡ many upper
again_many endless true d = refl
again_many endless false d = absurd (d tt)
again_many (upto n) true d = sym (le-leb 2 n d)
again_many (upto n) false d = sym (lt-leb 2 n (omega arith))

module _ (plan : Plan) (q : ℕ) where
  abbrev nodes : Nodes
  nodes = plan.procedure.now.nodes

  abbrev starts : List ℕ
  starts = plan.procedure.now.starts

  abbrev nulls : List Bool
  nulls = plan.procedure.now.nulls

  abbrev links : Links
  links = plan.links.now

  abbrev n : ℕ
  n = plan.procedure.now.count

  -- ---- one step up

  nears_turned : {x : ℕ} {r : Bool} → x < n → turns_at plan x q ≡ true → Nears plan q x r → r ≡ true
  nears_turned h t (over l) = absurd (omega arith)
  nears_turned h t (here l f) = refl
  nears_turned h t (shut l f g) = absurd (false≢true (sym f ∙ t))
  nears_turned h t (on l f g w) = absurd (false≢true (sym f ∙ t))

  nears_shut : {x : ℕ} {r : Bool} → x < n → turns_at plan x q ≡ false → passes_at plan.procedure.now x ≡ false → Nears plan q x r → r ≡ false
  nears_shut h t p (over l) = refl
  nears_shut h t p (here l f) = absurd (false≢true (sym t ∙ f))
  nears_shut h t p (shut l f g) = refl
  nears_shut h t p (on l f g w) = absurd (false≢true (sym p ∙ g))

  nears_on : {x : ℕ} {r : Bool} → x < n → turns_at plan x q ≡ false → passes_at plan.procedure.now x ≡ true → Nears plan q x r
      → Nears plan q (above_at plan.links.now x) r
  nears_on h t p (over l) = absurd (omega arith)
  nears_on h t p (here l f) = absurd (false≢true (sym t ∙ f))
  nears_on h t p (shut l f g) = absurd (false≢true (sym g ∙ p))
  nears_on h t p (on l f g w) = w

  -- ---- where the way within a part leads: where it ends, up from node a above the part

  abbrev TellsAbove : Way (Unit {0}) → ℕ → Bool → Type 0
  TellsAbove (turns u) a r = r ≡ true
  TellsAbove ends a r = Nears plan q a r
  TellsAbove stuck a r = r ≡ false

  -- out of a child with nothing behind it
  out_of : (x : Way (Unit {0})) (a : ℕ) (r : Bool) → TellsAbove x a r → TellsAbove (map_way there x ends) a r
  out_of (turns u) a r h = h
  out_of ends a r h = h
  out_of stuck a r h = h

  -- out of a child, where the way goes on at node i
  out_to : {B : Type 0} (x : Way (Unit {0})) (y : Entry B) (b : Bool) (i a : ℕ) (r : Bool) → TellsAbove x i r
      → (Nears plan q i r → TellsAbove (turn_or there y (cond b ends stuck)) a r) → TellsAbove (climb there x there y b) a r
  out_to (turns u) y b i a r h go = h
  out_to ends y b i a r h go = go h
  out_to stuck y b i a r h go = h

  -- at node i
  step_up : {B : Type 0} {y : Entry B} {d : Bool} → Opens y d → (b : Bool) {i a : ℕ} {r : Bool} → i < n → turns_at plan i q ≡ d → passes_at plan.procedure.now i ≡ b
      → above_at plan.links.now i ≡ a → Nears plan q i r → TellsAbove (turn_or there y (cond b ends stuck)) a r
  step_up (open_at u) b h t p e w = nears_turned h t w
  step_up closed true {r = r} h t p e w = subst (λ (x : ℕ). Nears plan q x r) e (nears_on h t p w)
  step_up closed false h t p e w = nears_shut h t p w

  -- ---- what the plan says at a sequence and at a repeat

  module _ (begun : TellsStarts (held nodes) starts n) (empties : TellsNulls (held nodes) nulls n) where
    turns_sequence : (s : ℕ) (l r : Expr) → Stands (held nodes) s (sequence l r)
        → turns_at plan (s + size l + size r) q ≡ begins_of starts links (root (s + size l) r) q && true
    turns_sequence s l r st =
        let z = root-size (s + size l) r in
        let before : s + size l + size r - 1 ≡ root (s + size l) r = omega arith in
        ap (λ (m : Node). begins_of starts links (s + size l + size r - 1) q && may_turn m) st.2 ∙ ap (λ (y : ℕ). begins_of starts links y q && true) before

    passes_sequence : (s : ℕ) (l r : Expr) → Stands (held nodes) s (sequence l r) → s + size l + size r < n
        → passes_at plan.procedure.now (s + size l + size r) ≡ nullable r
    passes_sequence s l r st fit =
        let z = root-size (s + size l) r in
        let before : s + size l + size r - 1 ≡ root (s + size l) r = omega arith in
        ap (λ (m : Node). cond (eqb (kind_of m) 4) true (get_or nulls (s + size l + size r - 1) false)) st.2
        ∙ ap (λ (y : ℕ). get_or nulls y false) before
        ∙ null_of_part (held nodes) nulls n (s + size l) r empties st.1 (omega arith)

    turns_repeat : (s : ℕ) (b : Expr) (lower : ℕ) (upper : Upper) → Stands (held nodes) s (repeat b lower upper)
        → turns_at plan (s + size b) q ≡ begins_of starts links (root s b) q && many upper
    turns_repeat s b lower upper st =
        let z = root-size s b in
        let before : s + size b - 1 ≡ root s b = omega arith in
        ap (λ (m : Node). begins_of starts links (s + size b - 1) q && may_turn m) st.1.1
        ∙ ap₂ (λ (y : ℕ) (x : Upper). begins_of starts links y q && many x) before (sym st.1.2)

    passes_repeat : (s : ℕ) (b : Expr) (lower : ℕ) (upper : Upper) → Stands (held nodes) s (repeat b lower upper) → passes_at plan.procedure.now (s + size b) ≡ true
    passes_repeat s b lower upper st =
        ap (λ (m : Node). cond (eqb (kind_of m) 4) true (get_or nulls (s + size b - 1) false)) st.1.1

    -- the right part of a sequence begins no higher than the plan says
    right_up : (l : Bool) (h i y : ℕ) → y ≤ i → i ≤ h → y ≤ cond l h y
    right_up true h i y a b = omega arith
    right_up false h i y a b = omega arith

    -- the way up from a place of a part is the way within the part, and then the way up from the node above it
    nears : (s : ℕ) (e : Expr) (a h : ℕ) (p : Place e) (to : Bool) → Target (held nodes) n q → Stands (held nodes) s e → Planned links s e a h
        → root s e ≤ h → s + size e ≤ n → Nears plan q (above_at plan.links.now (node_of s e p)) to → TellsAbove (near s e p q) a to
    nears s empty a h p to k st pl up fit w = absurd p
    nears s (event c) a h p to k st pl up fit w = subst (λ (x : ℕ). Nears plan q x to) pl.0 w
    nears s (choice l r) a h (inl p) to k st pl up fit w =
        out_of (near s l p q) a to (nears s l a h p to k st.0 pl.1 (omega (arith, root-size s l)) (omega arith) w)
    nears s (choice l r) a h (inr p) to k st pl up fit w =
        out_of (near (s + size l) r p q) a to (nears (s + size l) r a h p to k st.1 pl.2 (omega (arith, root-size (s + size l) r)) (omega arith) w)
    nears s (sequence l r) a h (inl p) to k st pl up fit w =
        let i = s + size l + size r in
        let last = root-size (s + size l) r in
        let test =
        begins_by_test (held nodes) starts links n (s + size l) r a _ q st.1 pl.2
        (start_of_part (held nodes) starts n (s + size l) r begun st.1 (omega arith))
        (right_up (nullable l) h i (root (s + size l) r) (omega arith) up) (omega arith) k in
        out_to (near s l p q) (entry (s + size l) r q) (nullable r) i a to
        (nears s l i h p to k st.0 pl.1 (omega (arith, root-size s l)) (omega arith) w)
        (step_up (opens_behind true (opens_begins test)) (nullable r) (omega arith) (turns_sequence s l r st) (passes_sequence s l r st (omega arith)) pl.0.0)
    nears s (sequence l r) a h (inr p) to k st pl up fit w =
        out_of (near (s + size l) r p q) a to
        (nears (s + size l) r a _ p to k st.1 pl.2
        (right_up (nullable l) h (s + size l + size r) (root (s + size l) r) (omega (arith, root-size (s + size l) r)) up) (omega arith) w)
    nears s (repeat b lower upper) a h p to k st pl up fit w =
        let i = s + size b in
        let last = root-size s b in
        let test =
        begins_by_test (held nodes) starts links n s b i h q st.0 pl.1 (start_of_part (held nodes) starts n s b begun st.0 (omega arith))
        (omega arith) (omega arith) k in
        out_to (near s b p.0 q) (cond (many upper) (entry s b q) apart) true i a to
        (nears s b i h p.0 to k st.0 pl.1 (omega (arith, root-size s b)) (omega arith) w)
        (step_up (opens_behind (many upper) (opens_begins test)) true (omega arith) (turns_repeat s b lower upper st) (passes_repeat s b lower upper st) pl.0.0)

  -- above the whole there is nothing
  above_whole : (x : Way (Unit {0})) (r : Bool) → n ≤ top → TellsAbove x top r → So r ↔ Turned x
  above_whole (turns u) r few h = (λ w. tt, λ w. h)
  above_whole ends r few (over l) = (λ w. absurd (false≢true w), λ w. absurd w)
  above_whole ends r few (here l f) = absurd (omega arith)
  above_whole ends r few (shut l f g) = absurd (omega arith)
  above_whole ends r few (on l f g w) = absurd (omega arith)
  above_whole stuck r few h = (λ w. absurd (false≢true (sym h ∙ w)), λ w. absurd w)

-- the way up from event node p tells whether q is near
pub nears_near : {plan : Plan} {q : ℕ} (p : ℕ) {r : Bool} → kind_of (held plan.procedure.now.nodes q) ≡ 1 → Nears plan q (above_at plan.links.now p) r
    → TellsNear plan p q r
nears_near {plan} {q} p {r} k w = record {
  tells =
      λ e t pl same.
      let whole = root-size 0 e in
      let from = subst (λ (x : ℕ). Nears plan q (above_at plan.links.now x) r) (sym same) w in
      above_whole plan q (near 0 e t q) r pl.listing.few
      (nears plan q pl.begun pl.empties 0 e top (root 0 e) t r (at k) pl.listing.stands pl.planned (omega arith)
      (omega (arith, pl.listing.sized)) from);
}
