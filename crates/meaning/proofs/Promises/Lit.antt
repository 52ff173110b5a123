-- The prompt never hides a step: every code that continues a run is lit where the run stands. Assumes nothing.
use Rattle.std.specs.Prelude.{Ok}
use mathlib.Core.Path.{◌≡◌, refl, sym, ap, subst, ◌∙◌}
use mathlib.Core.List.{List, [], ◌∷◌, ◌++◌, append_assoc}
use Prim.Native.Nat.{ℕ, ◌+◌}
use native.Mathlib.Numerals.{add-one}
use Rattle.meaning.specs.Answers.{words}
use Rattle.meaning.specs.Bytes.{two_at}
use Rattle.meaning.specs.Codes.{Has, in_words}
use Rattle.meaning.specs.Expr.{Expr, Bounded}
use Rattle.meaning.specs.File.{Admitted}
use Rattle.meaning.specs.Promises.{Lights, Prompts}
use Rattle.meaning.specs.State.{State, Reaches, ReachesBytes, padded, reached, state_bytes, state_of}
use Rattle.meaning.specs.Strong.{StronglyDeterministic}
use Rattle.meaning.specs.Word.{Begins}
use Rattle.meaning.specs.Theory.Places.{node_of, code_at, item_of}
use Rattle.meaning.specs.Theory.Runs.{spot_state}
use Rattle.meaning.specs.Theory.Spots.{Spot, start, behind}
use Rattle.meaning.proofs.Places.Directly.{place_part}
use Rattle.meaning.proofs.File.Files.{holds_bounded}
use Rattle.meaning.proofs.Determinism.FirstAfter.{start_first}
use Rattle.meaning.proofs.Expressions.FirstWorded.{first_iff_worded}
use Rattle.meaning.proofs.Places.Loosened.{step_near, lights_iff_near}
use Rattle.meaning.proofs.Promises.Outcomes.{admitted_unique}
use Rattle.meaning.proofs.State.Runs.{reaches_run}
use Rattle.meaning.proofs.Deciding.Search.{arrives_reaches}
use Rattle.meaning.proofs.Places.Spots.{Move, CanMove, Arrival, Arrives, cut}
use Rattle.meaning.proofs.State.StateBytes.{numbers_fit}
use Rattle.meaning.proofs.State.States.{one_state}
use Rattle.meaning.proofs.State.Stays.{reached-append}
use Rattle.meaning.proofs.General.Twos.{first_two}
use Rattle.meaning.proofs.Expressions.WordReading.{word_iff_reading}

-- the node of a spot, as a state has it
abbrev spot_node : (e : Expr) → Spot e → ℕ
spot_node e start = 0
spot_node e (behind p) = node_of 0 e p + 1

-- the node that a way reaches is that of its last spot
arrives_node : (e : Expr) (k : Spot e) (u : List ℕ) (w : Arrival e) → Arrives e k u w → reached w.1 (spot_node e k) ≡ spot_node e w.0
arrives_node e k [] w g = subst (λ (t : Arrival e). reached t.1 (spot_node e k) ≡ spot_node e t.0) (sym g) refl
arrives_node e k (c ∷ u) w g =
    let v = g.0 in
    let x = g.2.0 in
    subst (λ (t : Arrival e). reached t.1 (spot_node e k) ≡ spot_node e t.0) (sym g.2.2)
    (reached-append v.1 (item_of 0 e v.0 ∷ x.1) (spot_node e k) ∙ arrives_node e (behind v.0) u x g.2.1)

-- the code of every move from a spot is lit there
move_lit : (e : Expr) → Bounded e → (k : Spot e) (v : Move e) → CanMove e k v → Lights e (spot_node e k) (code_at e v.0)
move_lit e h start v n = (first_iff_worded e h (code_at e v.0)).0 (start_first e v.0 n.0)
move_lit e h (behind p) v n =
    let t = v.0 in
    subst (λ (i : ℕ). Lights e i (code_at e t)) (sym (add-one (node_of 0 e p)))
    ((lights_iff_near e h p (code_at e t)).1 (node_of 0 e t, step_near 0 e p t v.1 n, place_part 0 e t))

-- the first two bytes of a state hold its node
state_node : (f : List ℕ) (e : Expr) → Admitted f e → (u : List ℕ) (z : State) → Reaches e u z → two_at (state_bytes z) 0 ≡ z.node
state_node f e a u z r =
    let at = reaches_run e (holds_bounded a.holds) u z r in
    subst (λ (y : State). two_at (state_bytes y) 0 ≡ y.node) at.2
    (first_two (spot_state e at.0).node (padded (spot_state e at.0).counts) (numbers_fit f e a.holds at.0 at.1.safe))

-- a code that continues a run is lit at the node that the run reaches
pub continues_lit : (e : Expr) → Bounded e → StronglyDeterministic e → (u : List ℕ) (z : State) (c : ℕ) → Reaches e u z → Begins e (u ++ (c ∷ []))
    → Lights e z.node c
continues_lit e h d u z c r b =
    let x = (word_iff_reading 0 e h ((u ++ (c ∷ [])) ++ b.0)).0 b.1 in
    let k = cut e h start u (c ∷ b.0) x.0 x.1 (x.2 ∙ append_assoc u (c ∷ []) b.0) in
    let next = (cut e h k.to.0 (c ∷ []) b.0 k.rest k.completes k.left).way in
    let same = one_state e d u z (state_of e k.to.1) r (arrives_reaches e h u k.to k.way) in
    let there : z.node ≡ spot_node e k.to.0 = ap (λ (y : State). y.node) same ∙ arrives_node e start u k.to k.way in
    subst (λ (i : ℕ). Lights e i c) (sym there)
    (subst (λ (a : ℕ). Lights e (spot_node e k.to.0) a) next.1.1 (move_lit e h k.to.0 next.0 next.1.0))

-- so it is in the set that Prompt gives
pub prompt_hides_nothing : (f state : List ℕ) (low high : ℕ) → Prompts f state (Ok (words low high)) → (e : Expr) → Admitted f e
    → (u : List ℕ) → ReachesBytes e u state → (c : ℕ) → Begins e (u ++ (c ∷ [])) → Has (in_words low high) c
prompt_hides_nothing f state low high (Prompts.lit d v low' high' told came set) e admitted u r c b =
    let same = admitted_unique f d e told admitted in
    let z = r.0 in
    let lit = continues_lit e (holds_bounded admitted.holds) admitted.strong u z c r.1 b in
    let node : two_at state 0 ≡ z.node = ap (λ (x : List ℕ). two_at x 0) r.2 ∙ state_node f e admitted u z r.1 in
    (set.codes c).1 (subst (λ (x : Expr). Lights x (two_at state 0) c) (sym same) (subst (λ (i : ℕ). Lights e i c) (sym node) lit))
