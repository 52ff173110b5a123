-- Where a run stands: at the start or at a sound place whose state it reaches. From there a way to an event node takes its event, an
-- event without a way does not continue the run, and the run is a word exactly where a reading may stop.
use mathlib.Core.Path.{◌≡◌, refl, sym, ap, ◌∙◌, subst, subst⁻¹}
use mathlib.Core.Logic.{◌↔◌}
use mathlib.Core.List.{List, [], ◌∷◌, ◌++◌, append_assoc, append-nil}
use Prim.Native.Nat.{ℕ, ◌+◌}
use native.Mathlib.Omega.{arith}
use lib.ListN.{length, take}
use lib.Seq.{take-append_seam}
use Rattle.meaning.specs.Expr.{Expr, event, Part, Bounded}
use Rattle.meaning.specs.Word.{Word, Begins}
use Rattle.meaning.specs.Reading.{Item, codes, up_to}
use Rattle.meaning.specs.Strong.{StronglyDeterministic}
use Rattle.meaning.specs.State.{State, state_of, Reaches, reaches}
use Rattle.meaning.specs.Theory.Places.{Place, node_of, code_at, item_of, Sound, opens, Before}
use Rattle.meaning.specs.Theory.Counts.{place_state}
use Rattle.meaning.specs.Theory.Spots.{Spot, start, behind, CanStop, Safe}
use Rattle.meaning.specs.Theory.Ways.{way}
use Rattle.meaning.specs.Theory.Runs.{spot_state, LeadsTo, NoWay}
use Rattle.meaning.proofs.Expressions.Items.{codes-append, codes-up_to}
use Rattle.meaning.proofs.Expressions.Records.{code_of_node}
use Rattle.meaning.proofs.Places.Directly.{place_part}
use Rattle.meaning.proofs.Expressions.WordReading.{word_iff_reading}
use Rattle.meaning.proofs.Places.Steps.{start_sound, step_sound}
use Rattle.meaning.proofs.Places.Before.{before_start, before_step, some_before}
use Rattle.meaning.proofs.State.Stays.{before_state}
use Rattle.meaning.proofs.State.States.{run_within, reaches_begins, one_state, ReadingParted, at_start, at_place, parted_reading, reading_parted, parted_reaches}
use Rattle.meaning.proofs.State.Continue.{alike_rest, same_state_alike, same_state_same_continuations, codes_rest}
use Rattle.meaning.proofs.Places.Spots.{Move, CanMove, last, Completes, completes_stop, completes_last, some_completes, last_no_event, arrives_codes, cut}
use Rattle.meaning.proofs.Places.Ways.{entry_iff, way_step, step_turned, turned_to}

-- ---- spots and the ways from them

-- a way is a move to the node
leads_move : (e : Expr) (k : Spot e) (q : ℕ) (t : Place e) → LeadsTo e k q t → (m : List Item) × CanMove e k (t, m) × (node_of 0 e t ≡ q)
leads_move e start q t l = let z = (entry_iff 0 e q t).0 l in (opens 0 e t, (z.0, refl), z.1)
leads_move e (behind p) q t l = way_step 0 e p q t l

-- a move has a way to its node
move_leads : (e : Expr) (k : Spot e) (v : Move e) → CanMove e k v → (t : Place e) × LeadsTo e k (node_of 0 e v.0) t
move_leads e start v n = (v.0, (entry_iff 0 e (node_of 0 e v.0) v.0).1 (n.0, refl))
move_leads e (behind p) v n = turned_to (way 0 e p (node_of 0 e v.0)) (step_turned 0 e p v.0 v.1 n)

-- a way to an event node leads to a place with its code
pub leads_code : (e : Expr) (k : Spot e) (q c : ℕ) (t : Place e) → Part 0 e q (event c) → LeadsTo e k q t → code_at e t ≡ c
leads_code e k q c t w l =
    code_of_node e q (code_at e t) c (subst (λ (i : ℕ). Part 0 e i (event (code_at e t))) (leads_move e k q t l).2 (place_part 0 e t)) w

-- from a safe spot a way leads to a sound place
pub leads_sound : (e : Expr) → Bounded e → (k : Spot e) → Safe e k → (q : ℕ) (t : Place e) → LeadsTo e k q t → Sound e t
leads_sound e h start s q t l = start_sound e h t ((entry_iff 0 e q t).0 l).0
leads_sound e h (behind p) s q t l = let z = way_step 0 e p q t l in step_sound 0 e h p t z.0 s z.1

-- ---- items that lead to a spot

-- the items stand before the spot
abbrev LedTo : (e : Expr) → Spot e → List Item → Type 0
LedTo e start a = a ≡ []
LedTo e (behind p) a = Before 0 e p a

-- every safe spot has some
some_led : (e : Expr) → Bounded e → (k : Spot e) → Safe e k → (a : List Item) × LedTo e k a
some_led e h start s = ([], refl)
some_led e h (behind p) s = some_before 0 e h p s

-- the state after them is the spot's
led_state : (e : Expr) (k : Spot e) (a : List Item) → LedTo e k a → state_of e a ≡ spot_state e k
led_state e start a l = ap (state_of e) l
led_state e (behind p) a l = before_state e p a l

-- with what completes a reading from the spot they are a reading
led_parted : (e : Expr) (k : Spot e) (a y : List Item) → Safe e k → LedTo e k a → Completes e k y → ReadingParted e a y
led_parted e start a y s l o = subst⁻¹ (λ (x : List Item). ReadingParted e x y) l (at_start y o)
led_parted e (behind p) a y s l o = at_place p a y s l o

-- so their run reaches the spot's state
led_reaches : (e : Expr) → Bounded e → (k : Spot e) (a : List Item) → Safe e k → LedTo e k a → Reaches e (codes a) (spot_state e k)
led_reaches e h k a s l =
    let y = some_completes e h k s in
    subst (Reaches e (codes a)) (led_state e k a l) (parted_reaches e a y.0 (led_parted e k a y.0 s l y.1))

-- a move makes of them those before the next place
led_move : (e : Expr) → Bounded e → (k : Spot e) (a : List Item) (v : Move e) → Safe e k → LedTo e k a → CanMove e k v
    → Before 0 e v.0 (a ++ (v.1 ++ (item_of 0 e v.0 ∷ [])))
led_move e h start a v s l n = rw (l, n.1) (before_start 0 e h v.0 n.0)
led_move e h (behind p) a v s l n = before_step 0 e h p v.0 v.1 a s l n

-- what completes a reading after items with the spot's state completes one from the spot
same_state_completes : (e : Expr) (k : Spot e) (a y : List Item) → ReadingParted e a y → state_of e a ≡ spot_state e k → Completes e k y
same_state_completes e start a y (at_start t r) h = r
same_state_completes e (behind p) a y (at_start t r) h =
    let n : 0 ≡ node_of 0 e p + 1 = ap (λ (z : State). z.node) h in absurd (omega arith)
same_state_completes e start a y (at_place q b t k c r) h =
    let n : node_of 0 e q + 1 ≡ 0 = ap (λ (z : State). z.node) (sym (before_state e q a c) ∙ h) in absurd (omega arith)
same_state_completes e (behind p) a y (at_place q b t k c r) h =
    alike_rest 0 e q p y (same_state_alike e q p (sym (before_state e q a c) ∙ h)) r

-- ---- a run at a spot

-- the run stands at the spot: it reaches the spot's state, by whatever places it went
pub record RunAt (e : Expr) (w : List ℕ) (k : Spot e) : Type 0 where
  pub safe : Safe e k
  pub there : Reaches e w (spot_state e k)

-- it begins a word
pub run_begins : (e : Expr) → Bounded e → (w : List ℕ) (k : Spot e) → RunAt e w k → Begins e w
run_begins e h w k at = reaches_begins e h w (spot_state e k) at.there

-- some run stands at every safe spot
pub some_run : (e : Expr) → Bounded e → (k : Spot e) → Safe e k → (w : List ℕ) × RunAt e w k
some_run e h k s = let a = some_led e h k s in (codes a.0, record { safe = s; there = led_reaches e h k a.0 s a.1 })

-- a run that reaches a state stands at a spot with that state
pub reaches_run : (e : Expr) → Bounded e → (w : List ℕ) (z : State) → Reaches e w z → (k : Spot e) × RunAt e w k × (spot_state e k ≡ z)
reaches_run e h w z (reaches x r c) = go (up_to x (length w)) (reaches x r c) parted.0 parted.1
  where
    parted : (y : List Item) × ReadingParted e (up_to x (length w)) y × (x ≡ up_to x (length w) ++ y)
    parted = reading_parted e h x (length w) r (run_within x w c)

    go : (a : List Item) → Reaches e w (state_of e a) → (y : List Item) → ReadingParted e a y → (k : Spot e) × RunAt e w k × (spot_state e k ≡ state_of e a)
    go a t y (at_start b o) = (start, record { safe = tt; there = t }, refl)
    go a t y (at_place p b v s l o) =
        let same = before_state e p a l in
        (behind p, record { safe = s; there = subst (Reaches e w) same t }, sym same)

module _ (e : Expr) (h : Bounded e) (d : StronglyDeterministic e) (w : List ℕ) (k : Spot e) (at : RunAt e w k) where
  -- what makes a word of the run completes a reading from the spot
  word_completes : (r : List ℕ) → Word e (w ++ r) → (y : List Item) × Completes e k y × (codes y ≡ r)
  word_completes r word =
      let t = (word_iff_reading 0 e h (w ++ r)).0 word in
      let x = t.0 in
      let a = up_to x (length w) in
      let front : codes a ≡ w = codes-up_to x (length w) ∙ ap (take (length w)) t.2 ∙ take-append_seam w r in
      let z = reading_parted e h x (length w) t.1 (run_within x w front) in
      let same = one_state e d w (state_of e a) (spot_state e k) (reaches x t.1 front) at.there in
      (z.0, same_state_completes e k a z.0 z.1 same, codes_rest a z.0 w r front (ap codes (sym z.2) ∙ t.2))

  -- what completes a reading from the spot makes a word of the run
  completes_word : (y : List Item) → Completes e k y → Word e (w ++ codes y)
  completes_word y o =
      let a = some_led e h k at.safe in
      let all = parted_reading e a.0 y (led_parted e k a.0 y at.safe a.1 o) in
      let word = (word_iff_reading 0 e h (codes a.0 ++ codes y)).1 (a.0 ++ y, all, codes-append a.0 y) in
      (same_state_same_continuations e h d (codes a.0) w (spot_state e k) (led_reaches e h k a.0 at.safe a.1) at.there (codes y)).1.0 word

  -- the run is a word exactly if a reading may stop at the spot
  pub word_iff_stop : Word e w ↔ CanStop e k
  word_iff_stop = (
    λ word. let t = word_completes [] (subst⁻¹ (Word e) (append-nil w) word) in (completes_last e h k t.0 t.1 t.2).0,
    λ c.
        let word = completes_word (last e k) (completes_stop e h k at.safe c) in
        subst (Word e) (ap {B = List ℕ} (λ x. w ++ x) (last_no_event e k) ∙ append-nil w) word,
  )

  -- where no event node with the code has a way from the spot, the code does not continue the run
  pub no_way_no_more : (c : ℕ) → NoWay e k c → ¬ Begins e (w ++ (c ∷ []))
  unfolding NoWay
  no_way_no_more c never b =
      let t = word_completes (c ∷ b.0) (subst (Word e) (append_assoc w (c ∷ []) b.0) b.1) in
      let step = (cut e h k (c ∷ []) b.0 t.0 t.1 t.2).way in
      let v = step.0 in
      let lead = move_leads e k v step.1.0 in
      never (node_of 0 e v.0) (subst (λ (i : ℕ). Part 0 e (node_of 0 e v.0) (event i)) step.1.1 (place_part 0 e v.0)) lead.0 lead.1

  -- with the event of a way the run stands behind it
  pub run_next : (q : ℕ) (t : Place e) → LeadsTo e k q t → RunAt e (w ++ (code_at e t ∷ [])) (behind t)
  run_next q t l =
      let c = code_at e t in
      let s = at.safe in
      let sound = leads_sound e h k s q t l in
      let move = leads_move e k q t l in
      let v : Move e = (t, move.0) in
      let a = some_led e h k s in
      let passed = move.0 ++ (item_of 0 e t ∷ []) in
      let code = arrives_codes e k (c ∷ []) (behind t, passed) (v, (move.1, refl), ((behind t, []), refl, refl)) in
      let run = codes-append a.0 passed ∙ ap {B = List ℕ} (λ x. codes a.0 ++ x) code in
      let other = led_reaches e h (behind t) (a.0 ++ passed) sound (led_move e h k a.0 v s a.1 move.1) in
      let alike = same_state_same_continuations e h d (codes a.0) w (spot_state e k) (led_reaches e h k a.0 s a.1) at.there (c ∷ []) in
      record { safe = sound; there = (alike.2 (place_state e t)).0 (subst (λ (x : List ℕ). Reaches e x (place_state e t)) run other) }
