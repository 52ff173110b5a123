-- The arrivals, the readings and the states of a run as lists: whether it is a word, or begins one, is found by computing.
use mathlib.Core.Path.{◌≡◌, sym, ap, subst, ◌∙◌}
use mathlib.Core.List.{List, [], ◌∷◌, ◌++◌, append-nil}
use Prim.Native.Nat.{ℕ}
use native.Mathlib.Decide.{ℕ_discrete}
use lib.ListN.{length, drop, take-append-drop}
use Rattle.meaning.specs.Expr.{Expr, Bounded}
use Rattle.meaning.specs.Word.{Word, Begins}
use Rattle.meaning.specs.Reading.{Item, Reading, codes, up_to}
use Rattle.meaning.specs.State.{State, state_of, Reaches, reaches}
use Rattle.meaning.specs.Theory.Places.{code_at}
use Rattle.meaning.specs.Theory.Spots.{Spot, start, behind, CanStop}
use Rattle.meaning.proofs.Deciding.Listed.{Listed, only, kept, each, mapped, image, some, decided}
use Rattle.meaning.proofs.Expressions.Items.{codes-append, codes-up_to}
use Rattle.meaning.proofs.Expressions.WordReading.{word_iff_reading}
use Rattle.meaning.proofs.Places.Spots.{last, last_no_event, completes_stop, completes_last, some_completes, Arrival, onto, Arrives, arrives_codes, arrives_up_to, arrives_completes, cut}
use Rattle.meaning.proofs.Deciding.Moves.{moves_list, stop_decided}

-- the arrivals of a run from a spot
arrivals : (e : Expr) (k : Spot e) (u : List ℕ) → Listed (Arrives e k u)
unfolding only kept each mapped moves_list ℕ_discrete
arrivals e k [] = only (k, [])
arrivals e k (c ∷ u) = each (kept (moves_list e k) (λ v. ℕ_discrete (code_at e v.0) c)) (λ v. mapped (onto e v) (arrivals e (behind v.0) u))

-- a way to where a reading may stop is a reading with the run's codes
pub arrives_reading : (e : Expr) → Bounded e → (u : List ℕ) (w : Arrival e) → Arrives e start u w → CanStop e w.0
    → Reading 0 e (w.1 ++ last e w.0) × (codes (w.1 ++ last e w.0) ≡ u)
arrives_reading e h u w g c =
    let t = arrives_completes e h start tt u w g in
    let run = arrives_codes e start u w g in
    let none = last_no_event e w.0 in
    (t.1 (last e w.0) (completes_stop e h w.0 t.0 c), codes-append w.1 (last e w.0) ∙ (λ i. run i ++ none i) ∙ append-nil u)

-- every reading with the run's codes is such a way
pub reading_arrives : (e : Expr) → Bounded e → (u : List ℕ) (x : List Item) → Reading 0 e x → codes x ≡ u
    → (w : Arrival e) × (Arrives e start u w × CanStop e w.0) × (x ≡ w.1 ++ last e w.0)
reading_arrives e h u x r c =
    let t = cut e h start u [] x r (c ∙ sym (append-nil u)) in
    let z = completes_last e h t.to.0 t.rest t.completes t.left in
    (t.to, (t.way, z.0), t.whole ∙ ap {B = List Item} (λ y. t.to.1 ++ y) z.1)

-- the readings with the codes of a run
unfoldable pub reading_list : (e : Expr) → Bounded e → (u : List ℕ) → Listed (λ x. Reading 0 e x × (codes x ≡ u))
unfolding image kept arrivals stop_decided
reading_list e h u =
    let stopping = kept (arrivals e start u) (λ w. stop_decided e w.0) in
    image (λ w. w.1 ++ last e w.0) stopping (λ w t. arrives_reading e h u w t.0 t.1) (λ x t. reading_arrives e h u x t.0 t.1)

-- a run is a word, or not
unfoldable pub word_decided : (e : Expr) → Bounded e → (u : List ℕ) → Dec (Word e u)
unfolding decided some reading_list
word_decided e h u =
    let both = word_iff_reading 0 e h u in
    decided (λ t. both.1 (t.0, t.1.0, t.1.1)) (λ k. let t = both.0 k in (t.0, (t.1, t.2))) (some (reading_list e h u))

-- a run that has a way begins a word
pub arrives_begins : (e : Expr) → Bounded e → (u : List ℕ) → (w : Arrival e) × Arrives e start u w → Begins e u
arrives_begins e h u g =
    let w = g.0 in
    let t = arrives_completes e h start tt u w g.1 in
    let y = some_completes e h w.0 t.0 in
    let run = arrives_codes e start u w g.1 in
    let both = codes-append w.1 y.0 ∙ (λ i. run i ++ codes y.0) in
    (codes y.0, (word_iff_reading 0 e h (u ++ codes y.0)).1 (w.1 ++ y.0, t.1 y.0 y.1, both))

-- a run that begins a word has a way
pub begins_arrives : (e : Expr) → Bounded e → (u : List ℕ) → Begins e u → (w : Arrival e) × Arrives e start u w
begins_arrives e h u k =
    let x = (word_iff_reading 0 e h (u ++ k.0)).0 k.1 in
    let t = cut e h start u k.0 x.0 x.1 x.2 in
    (t.to, t.way)

-- a run begins a word, or not
unfoldable pub begins_decided : (e : Expr) → Bounded e → (u : List ℕ) → Dec (Begins e u)
unfolding decided some arrivals
begins_decided e h u = decided (arrives_begins e h u) (begins_arrives e h u) (some (arrivals e start u))

-- a run that has a way reaches the state after the items on it
pub arrives_reaches : (e : Expr) → Bounded e → (u : List ℕ) (w : Arrival e) → Arrives e start u w → Reaches e u (state_of e w.1)
arrives_reaches e h u w g =
    let t = arrives_completes e h start tt u w g in
    let y = some_completes e h w.0 t.0 in
    let there = arrives_up_to e start u w g y.0 in
    let run = ap codes there ∙ arrives_codes e start u w g in
    subst (λ (x : List Item). Reaches e u (state_of e x)) there (reaches (w.1 ++ y.0) (t.1 y.0 y.1) run)

-- every state that a run reaches is the state after the items on a way
pub reaches_arrives : (e : Expr) → Bounded e → (u : List ℕ) (z : State) → Reaches e u z → (w : Arrival e) × Arrives e start u w × (z ≡ state_of e w.1)
reaches_arrives e h u z (reaches x r c) =
    let all = codes x in
    let n = length u in
    let begun = sym (codes-up_to x n) ∙ c in
    let whole = sym (take-append-drop n all) ∙ ap (λ (v : List ℕ). v ++ drop n all) begun in
    let t = cut e h start u (drop n all) x r whole in
    let there = ap (λ (y : List Item). up_to y n) t.whole ∙ arrives_up_to e start u t.to t.way t.rest in
    (t.to, t.way, ap (state_of e) there)

-- the states that a run reaches
unfoldable pub state_list : (e : Expr) → Bounded e → (u : List ℕ) → Listed (Reaches e u)
unfolding image arrivals
state_list e h u = image (λ w. state_of e w.1) (arrivals e start u) (arrives_reaches e h u) (reaches_arrives e h u)
