-- Spots: the start and the places as one. What can come next, whether a reading can stop, what completes it from there,
-- and the spots that a run leads to with the items on the way.
use mathlib.Core.Path.{◌≡◌, refl, sym, ap, subst, ◌∙◌}
use mathlib.Core.List.{List, [], ◌∷◌, ◌++◌, append_assoc, cons≢nil, head-eq_of_cons-eq, tail-eq_of_cons-eq}
use Prim.Native.Nat.{ℕ, suc}
use lib.ListN.{length}
use Rattle.meaning.specs.Expr.{Expr, Bounded}
use Rattle.meaning.specs.Reading.{Item, place, Reading, codes, up_to}
use Rattle.meaning.specs.Theory.Places.{Place, node_of, code_at, item_of, Sound, CanStart, opens, closes, Step, Rest}
use Rattle.meaning.specs.Theory.Spots.{Spot, start, behind, CanStop, Safe}
use Rattle.meaning.proofs.Expressions.Items.{codes-append, up_to_zero, up_to_marks}
use Rattle.meaning.proofs.Places.Marks.{opens_no_event, closes_no_event, step_no_event}
use Rattle.meaning.proofs.Places.Steps.{Begun, nothing, first, reading_begun, begun_reading, Goes, ends, steps, rest_goes, goes_rest, start_sound, step_sound}
use Rattle.meaning.proofs.Places.Before.{some_reading, some_rest}

-- a next place, and the marks passed on the way to its event
abbrev pub Move : Expr → Type 0
Move e = Place e × List Item

-- the move can come next
abbrev pub CanMove : (e : Expr) → Spot e → Move e → Type 0
CanMove e start v = CanStart e v.0 × (v.1 ≡ opens 0 e v.0)
CanMove e (behind p) v = Step 0 e p v.0 v.1

-- the closings from there to the end
abbrev pub last : (e : Expr) → Spot e → List Item
last e start = []
last e (behind p) = closes 0 e p

-- the items complete a reading from the spot
abbrev pub Completes : (e : Expr) → Spot e → List Item → Type 0
Completes e start = Reading 0 e
Completes e (behind p) = Rest 0 e p

-- what completes a reading: nothing but closings, or a next event and what completes it from there
data Split (e : Expr) (k : Spot e) : List Item → Type 0 where
  stops : CanStop e k → Split e k (last e k)
  moves : (v : Move e) (y : List Item) → CanMove e k v → Rest 0 e v.0 y → Split e k (v.1 ++ (item_of 0 e v.0 ∷ y))

-- from the start, and from behind an event
split_start : (e : Expr) (x : List Item) → Begun 0 e x → Split e start x
split_start e x (nothing n) = stops n
split_start e x (first q y c t) = moves (q, opens 0 e q) y (c, refl) t

split_behind : (e : Expr) (p : Place e) (x : List Item) → Goes 0 e p x → Split e (behind p) x
split_behind e p x (ends c) = stops c
split_behind e p x (steps q m y g t) = moves (q, m) y g t

-- what completes a reading splits so
completes_split : (e : Expr) → Bounded e → (k : Spot e) (y : List Item) → Completes e k y → Split e k y
completes_split e h start y r = split_start e y (reading_begun 0 e h y r)
completes_split e h (behind p) y r = split_behind e p y (rest_goes 0 e h p y r)

-- where a reading may stop, its closings complete it
pub completes_stop : (e : Expr) → Bounded e → (k : Spot e) → Safe e k → CanStop e k → Completes e k (last e k)
completes_stop e h start s c = begun_reading 0 e h [] (nothing c)
completes_stop e h (behind p) s c = goes_rest 0 e h p s (closes 0 e p) (ends c)

-- a move and what completes a reading from there complete it
completes_move : (e : Expr) → Bounded e → (k : Spot e) → Safe e k → (v : Move e) (y : List Item) → CanMove e k v → Rest 0 e v.0 y
    → Completes e k (v.1 ++ (item_of 0 e v.0 ∷ y))
completes_move e h start s v y n t =
    subst (λ m. Reading 0 e (m ++ (item_of 0 e v.0 ∷ y))) (sym n.1) (begun_reading 0 e h (opens 0 e v.0 ++ (item_of 0 e v.0 ∷ y)) (first v.0 y n.0 t))
completes_move e h (behind p) s v y n t = goes_rest 0 e h p s (v.1 ++ (item_of 0 e v.0 ∷ y)) (steps v.0 v.1 y n t)

-- something completes a reading from a safe spot
pub some_completes : (e : Expr) → Bounded e → (k : Spot e) → Safe e k → (y : List Item) × Completes e k y
some_completes e h start s = some_reading 0 e h
some_completes e h (behind p) s = some_rest 0 e h p s

-- moves lead to sound places
move_safe : (e : Expr) → Bounded e → (k : Spot e) → Safe e k → (v : Move e) → CanMove e k v → Sound e v.0
move_safe e h start s v n = start_sound e h v.0 n.0
move_safe e h (behind p) s v n = step_sound 0 e h p v.0 v.1 s n

-- no event stands among the marks of a move
move_no_event : (e : Expr) (k : Spot e) (v : Move e) → CanMove e k v → codes v.1 ≡ []
move_no_event e start v n = ap codes n.1 ∙ opens_no_event 0 e v.0
move_no_event e (behind p) v n = step_no_event 0 e p v.0 v.1 n

-- nor among the last closings
pub last_no_event : (e : Expr) (k : Spot e) → codes (last e k) ≡ []
last_no_event e start = refl
last_no_event e (behind p) = closes_no_event 0 e p

-- a spot that is reached, and the items on the way to it
abbrev pub Arrival : Expr → Type 0
Arrival e = Spot e × List Item

-- a move, and then an arrival
abbrev pub onto : (e : Expr) → Move e → Arrival e → Arrival e
onto e v w = (w.0, v.1 ++ (item_of 0 e v.0 ∷ w.1))

-- from the spot the run leads to the arrival
abbrev pub Arrives : (e : Expr) → Spot e → List ℕ → Arrival e → Type 0
Arrives e k [] w = w ≡ (k, [])
Arrives e k (c ∷ u) w =
    (v : Move e) × (CanMove e k v × (code_at e v.0 ≡ c)) × ((x : Arrival e) × Arrives e (behind v.0) u x × (w ≡ onto e v x))

-- the codes of marks, an event and further items
codes_move : (m y : List Item) (i c : ℕ) → codes m ≡ [] → codes (m ++ (place i c ∷ y)) ≡ c ∷ codes y
codes_move m y i c h = codes-append m (place i c ∷ y) ∙ ap (λ (t : List ℕ). t ++ (c ∷ codes y)) h

-- the codes on the way are the run
pub arrives_codes : (e : Expr) (k : Spot e) (u : List ℕ) (w : Arrival e) → Arrives e k u w → codes w.1 ≡ u
arrives_codes e k [] w g = ap (λ (t : Arrival e). codes t.1) g
arrives_codes e k (c ∷ u) w g =
    let v = g.0 in
    let x = g.2.0 in
    let code = g.1.1 in
    let further = arrives_codes e (behind v.0) u x g.2.1 in
    ap (λ (t : Arrival e). codes t.1) g.2.2
    ∙ codes_move v.1 x.1 (node_of 0 e v.0) (code_at e v.0) (move_no_event e k v g.1.0)
    ∙ λ i. code i ∷ further i

-- the way ends with the run's last event
pub arrives_up_to : (e : Expr) (k : Spot e) (u : List ℕ) (w : Arrival e) → Arrives e k u w → (z : List Item) → up_to (w.1 ++ z) (length u) ≡ w.1
arrives_up_to e k [] w g z = subst (λ (t : Arrival e). up_to (t.1 ++ z) 0 ≡ t.1) (sym g) (up_to_zero z)
arrives_up_to e k (c ∷ u) w g z =
    let v = g.0 in
    let x = g.2.0 in
    let i = item_of 0 e v.0 in
    let further = arrives_up_to e (behind v.0) u x g.2.1 z in
    let cut = up_to_marks v.1 (x.1 ++ z) (node_of 0 e v.0) (code_at e v.0) (length u) (move_no_event e k v g.1.0) in
    let whole = ap (λ (t : List Item). up_to t (suc (length u))) (append_assoc v.1 (i ∷ x.1) z) in
    subst
    (λ (t : Arrival e). up_to (t.1 ++ z) (suc (length u)) ≡ t.1)
    (sym g.2.2)
    (whole ∙ cut ∙ ap {B = List Item} (λ t. v.1 ++ (i ∷ t)) further)

-- what completes a reading from the arrival completes it from the spot
pub arrives_completes : (e : Expr) → Bounded e → (k : Spot e) → Safe e k → (u : List ℕ) (w : Arrival e) → Arrives e k u w
    → Safe e w.0 × ((z : List Item) → Completes e w.0 z → Completes e k (w.1 ++ z))
arrives_completes e h k s [] w g =
    subst (λ (t : Arrival e). Safe e t.0 × ((z : List Item) → Completes e t.0 z → Completes e k (t.1 ++ z))) (sym g) (s, λ z o. o)
arrives_completes e h k s (c ∷ u) w g =
    let v = g.0 in
    let x = g.2.0 in
    let further = arrives_completes e h (behind v.0) (move_safe e h k s v g.1.0) u x g.2.1 in
    let on : (z : List Item) → Completes e x.0 z → Completes e k ((onto e v x).1 ++ z)
    = λ z o. rw (append_assoc v.1 (item_of 0 e v.0 ∷ x.1) z) (completes_move e h k s v (x.1 ++ z) g.1.0 (further.1 z o)) in
    subst
    (λ (t : Arrival e). Safe e t.0 × ((z : List Item) → Completes e t.0 z → Completes e k (t.1 ++ z)))
    (sym g.2.2)
    (further.0, on)

-- what completes a reading from a spot, cut where a run ends: the way to there, and the rest with its codes
pub record CutByRun (e : Expr) (k : Spot e) (u r : List ℕ) (y : List Item) : Type 0 where
  pub to : Arrival e
  pub way : Arrives e k u to
  pub rest : List Item
  pub completes : Completes e to.0 rest
  pub whole : y ≡ to.1 ++ rest
  pub left : codes rest ≡ r

-- a cut one event further back
cut_back : {e : Expr} {k : Spot e} {u r : List ℕ} {y : List Item} (v : Move e) → CanMove e k v → CutByRun e (behind v.0) u r y
    → CutByRun e k (code_at e v.0 ∷ u) r (v.1 ++ (item_of 0 e v.0 ∷ y))
cut_back {e} {k} v n t =
    record {
      to = onto e v t.to;
      way = (v, (n, refl), (t.to, t.way, refl));
      rest = t.rest;
      completes = t.completes;
      whole = ap {B = List Item} (λ z. v.1 ++ (item_of 0 e v.0 ∷ z)) t.whole ∙ sym (append_assoc v.1 (item_of 0 e v.0 ∷ t.to.1) t.rest);
      left = t.left;
    }

-- a reading can be cut where a run ends that its codes begin with
pub cut : (e : Expr) → Bounded e → (k : Spot e) (u r : List ℕ) (y : List Item) → Completes e k y → codes y ≡ u ++ r → CutByRun e k u r y
cut e h k [] r y o c = record { to = (k, []); way = refl; rest = y; completes = o; whole = refl; left = c }
cut e h k (c ∷ u) r y o a = go (λ q. cut e h (behind q) u r) y a (completes_split e h k y o)
  where
    go : ((q : Place e) (z : List Item) → Rest 0 e q z → codes z ≡ u ++ r → CutByRun e (behind q) u r z)
        → (x : List Item) → codes x ≡ c ∷ (u ++ r) → Split e k x → CutByRun e k (c ∷ u) r x
    go on x b (stops d) = absurd (cons≢nil (sym b ∙ last_no_event e k))
    go on x b (moves v z n t) =
        let d = sym (codes_move v.1 z (node_of 0 e v.0) (code_at e v.0) (move_no_event e k v n)) ∙ b in
        subst (λ j. CutByRun e k (j ∷ u) r x) (head-eq_of_cons-eq d) (cut_back v n (on v.0 z t (tail-eq_of_cons-eq d)))

-- what completes a reading without a further event is the closings
pub completes_last : (e : Expr) → Bounded e → (k : Spot e) (z : List Item) → Completes e k z → codes z ≡ [] → CanStop e k × (z ≡ last e k)
completes_last e h k z o c = go z c (completes_split e h k z o)
  where
    go : (x : List Item) → codes x ≡ [] → Split e k x → CanStop e k × (x ≡ last e k)
    go x b (stops d) = (d, refl)
    go x b (moves v y n t) =
        absurd (cons≢nil (sym (codes_move v.1 y (node_of 0 e v.0) (code_at e v.0) (move_no_event e k v n)) ∙ b))
