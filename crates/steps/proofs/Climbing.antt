-- The way up in the plan is the way in the tree, and a turn changes the counters to those of the place it leads to. Assumes nothing.
use mathlib.Core.Path.{◌≡◌, refl, sym, ap, subst, ◌∙◌}
use mathlib.Core.Logic.{inl, inr, ⊎_elim}
use mathlib.Core.Bool.{Bool, true, false, cond, ◌&&◌}
use mathlib.Core.List.{List}
use Prim.Native.Nat.{ℕ, suc, ◌+◌, ◌-◌, ◌≤◌, ◌<◌, min}
use native.Mathlib.Decide.{dec_le}
use native.Mathlib.Omega.{arith}
use borrow.Author.Tests.{le-leb, lt-leb}
use lib.Dec.{eqb, leb}
use lib.ListN.{length, get_or, set, length-set}
use lib.Seq.{get_or-set_same, get_or-set_other}
use Rattle.plan.specs.Link.{Links}
use Rattle.meaning.specs.Expr.{Expr, empty, event, choice, sequence, repeat, Upper, upto, endless, size, root}
use Rattle.meaning.specs.Node.{Node, node, Stands, bound, repeats_below}
use Rattle.meaning.specs.Normal.{nullable, low}
use Rattle.meaning.specs.State.{stop}
use Rattle.meaning.specs.Theory.Places.{Place, node_of, CanStart}
use Rattle.meaning.specs.Theory.Ways.{turns, ends, stuck, another, way}
use Rattle.meaning.proofs.General.Facts.{so_leb}
use Rattle.meaning.proofs.Expressions.Parts.{root-size}
use Rattle.procedure.specs.Entry.{Nodes, held, kind_of}
use Rattle.steps.specs.declared.climb.Look.TheVariants.{Turns, On, Stops}
use Rattle.steps.specs.declared.climb.Turn.{Turn}
use Rattle.steps.specs.declared.climb.Turn.TheVariants.{At, Stuck}
use Rattle.procedure.specs.Listing.{TellsNulls, TellsStarts}
use Rattle.procedure.proofs.Empties.{null_of_part}
use Rattle.procedure.proofs.Orders.{start_of_part}
use Rattle.plan.specs.Plan.{above_at, begins_of, Planned, rank_at, start_at}
use Rattle.meaning.specs.Theory.Counts.{Clear, Held, most, repeats}
use Rattle.steps.specs.Counts.{MarksUp, done, next, one_more, raised, TurnedTo}
use Rattle.steps.specs.Climb.{allowed, look_into, look_repeat, look_of, Climbs, past, turns, stops, on}
use Rattle.plan.proofs.Beginnings.{BeginsWith, begins_by_test, does, does_not, Target}
use Rattle.meaning.proofs.File.Ranks.{repeats_past}
use Rattle.steps.proofs.Counting.{Beside, entered, rank_of_repeat}

-- ---- what a stopped counter still tells

module _ (k lower c : ℕ) where
  more_law : (upper : Upper) → c ≡ stop lower upper (suc k) → allowed (c + 1) upper ≡ another k upper
  more_law endless f = refl
  more_law (upto n) f = let g : c + 1 ≡ suc (suc k) = omega arith in ap (λ (j : ℕ). leb j n) g

  enough_law : (upper : Upper) → c ≡ stop lower upper (suc k) → leb lower c ≡ leb lower (suc k)
  enough_law (upto n) f = ap (leb lower) f
  enough_law endless f = both (dec_le lower (suc k))
    where
      both : Dec (lower ≤ suc k) → leb lower c ≡ leb lower (suc k)
      both (yes h) = le-leb lower c (omega arith) ∙ sym (le-leb lower (suc k) h)
      both (no h) = lt-leb lower c (omega arith) ∙ sym (lt-leb lower (suc k) (omega arith))

  one_more_law : (upper : Upper) → c ≡ stop lower upper (suc k) → another k upper ≡ true → min (c + 1) (most lower upper) ≡ stop lower upper (suc (suc k))
  one_more_law (upto n) f more = let l = (so_leb (suc (suc k)) n).0 more in omega arith
  one_more_law endless f more = omega arith

-- ---- the outcomes

module _ (nodes : Nodes) (starts : List ℕ) (nulls : List Bool) (plan : Links) (counts : List ℕ) (n q : ℕ) where
  -- where the way up from a place of the part leads, whose next node above is a
  pub data Outcome (s k : ℕ) (e : Expr) (p : Place e) (a : ℕ) (r : Turn) : Type 0 where
    turned : (x : ℕ) (t : Place e) → r ≡ At x → way s e p q ≡ turns t → node_of s e t ≡ q
        → ((z : List ℕ) → TurnedTo nodes starts nulls plan x q counts z → Held z k e t × Beside counts z k (repeats e))
        → Outcome s k e p a r
    ended : way s e p q ≡ ends → Climbs nodes starts nulls plan counts n q a r → Outcome s k e p a r
    halted : way s e p q ≡ stuck → r ≡ Stuck → Outcome s k e p a r

  climbs_turns : {x : ℕ} {r : Turn} → x < n → look_of nodes starts nulls plan counts x q ≡ Turns → Climbs nodes starts nulls plan counts n q x r → r ≡ At x
  climbs_turns h e (past l) = absurd (omega arith)
  climbs_turns h e (turns l f) = refl
  climbs_turns h e (stops l f) = absurd (let z : ◌≡◌ {A = ℕ} 0 1 = cc in omega arith)
  climbs_turns h e (on l f w) = absurd (let z : ◌≡◌ {A = ℕ} 0 1 = cc in omega arith)

  climbs_stops : {x : ℕ} {r : Turn} → x < n → look_of nodes starts nulls plan counts x q ≡ Stops → Climbs nodes starts nulls plan counts n q x r → r ≡ Stuck
  climbs_stops h e (past l) = absurd (omega arith)
  climbs_stops h e (turns l f) = absurd (let z : ◌≡◌ {A = ℕ} 0 1 = cc in omega arith)
  climbs_stops h e (stops l f) = refl
  climbs_stops h e (on l f w) = absurd (let z : ◌≡◌ {A = ℕ} 0 1 = cc in omega arith)

  climbs_on : {x : ℕ} {r : Turn} → x < n → look_of nodes starts nulls plan counts x q ≡ On → Climbs nodes starts nulls plan counts n q x r
      → Climbs nodes starts nulls plan counts n q (above_at plan x) r
  climbs_on h e (past l) = absurd (omega arith)
  climbs_on h e (turns l f) = absurd (let z : ◌≡◌ {A = ℕ} 0 1 = cc in omega arith)
  climbs_on h e (stops l f) = absurd (let z : ◌≡◌ {A = ℕ} 0 1 = cc in omega arith)
  climbs_on h e (on l f w) = w

  -- a turn inside one child leaves the counters of the other
  module _ (k m o : ℕ) (z : List ℕ) {H : Type 0} where
    left_held : Clear counts (k + m) o → H × Beside counts z k m → (H × Clear z (k + m) o) × Beside counts z k (m + o)
    left_held clear w = ((w.0, λ j u v. w.1 j (inr u) ∙ clear j u v), λ j f. w.1 j (⊎_elim inl (λ u. inr (omega arith)) f))

    right_held : Clear counts k m → H × Beside counts z (k + m) o → (Clear z k m × H) × Beside counts z k (m + o)
    right_held clear w =
        ((λ j u v. w.1 j (inl v) ∙ clear j u v, w.0), λ j f. w.1 j (⊎_elim (λ u. inl (omega arith)) (λ u. inr (omega arith)) f))

  module _ {s k a : ℕ} {l r : Expr} {to : Turn} where
    left_choice : {p : Place l} → Clear counts (k + repeats l) (repeats r) → Outcome s k l p a to → Outcome s k (choice l r) (inl p) a to
    left_choice clear (turned x t e w i f) = turned x (inl t) e (rw w) i (λ z m. left_held k (repeats l) (repeats r) z clear (f z m))
    left_choice clear (ended w c) = ended (rw w) c
    left_choice clear (halted w e) = halted (rw w) e

    right_choice : {p : Place r} → Clear counts k (repeats l) → Outcome (s + size l) (k + repeats l) r p a to → Outcome s k (choice l r) (inr p) a to
    right_choice clear (turned x t e w i f) = turned x (inr t) e (rw w) i (λ z m. right_held k (repeats l) (repeats r) z clear (f z m))
    right_choice clear (ended w c) = ended (rw w) c
    right_choice clear (halted w e) = halted (rw w) e

    right_sequence : {p : Place r} → Clear counts k (repeats l) → Outcome (s + size l) (k + repeats l) r p a to → Outcome s k (sequence l r) (inr p) a to
    right_sequence clear (turned x t e w i f) = turned x (inr t) e (rw w) i (λ z m. right_held k (repeats l) (repeats r) z clear (f z m))
    right_sequence clear (ended w c) = ended (rw w) c
    right_sequence clear (halted w e) = halted (rw w) e

  -- the left part is left, and the right entered or passed
  module _ {s k a i : ℕ} {l r : Expr} {to : Turn} {p : Place l} where
    into_right : {b : Bool} → BeginsWith (s + size l) r q b → (nr : Bool) → nullable r ≡ nr → i < n
        → look_of nodes starts nulls plan counts i q ≡ cond b Turns (cond nr On Stops)
        → ((t : Place r) → CanStart r t → node_of (s + size l) r t ≡ q → (z : List ℕ) → TurnedTo nodes starts nulls plan i q counts z
        → (Clear z k (repeats l) × Held z (k + repeats l) r t) × Beside counts z k (repeats l + repeats r))
        → above_at plan i ≡ a → way s l p q ≡ ends → Climbs nodes starts nulls plan counts n q i to → Outcome s k (sequence l r) (inl p) a to
    into_right (does t e c m) nr en h look f up w climb =
        turned i (inr t) (climbs_turns h look climb) (rw (w, e)) m (f t c m)
    into_right (does_not e) true en h look f up w climb =
        ended (rw (w, e, en)) (subst (λ (y : ℕ). Climbs nodes starts nulls plan counts n q y to) up (climbs_on h look climb))
    into_right (does_not e) false en h look f up w climb = halted (rw (w, e, en)) (climbs_stops h look climb)

    left_sequence : Clear counts (k + repeats l) (repeats r) → Outcome s k l p i to
        → (way s l p q ≡ ends → Climbs nodes starts nulls plan counts n q i to → Outcome s k (sequence l r) (inl p) a to)
        → Outcome s k (sequence l r) (inl p) a to
    left_sequence clear (turned x t e w m f) go = turned x (inl t) e (rw w) m (λ z v. left_held k (repeats l) (repeats r) z clear (f z v))
    left_sequence clear (ended w c) go = go w c
    left_sequence clear (halted w e) go = halted (rw w) e

  -- the body is left, and entered again or passed
  module _ {s k a i : ℕ} {b : Expr} (lower : ℕ) (upper : Upper) {to : Turn} (p : Place b × ℕ) where
    into_body : {d : Bool} → BeginsWith s b q d → (more enough : Bool) → another p.1 upper ≡ more → leb (low (nullable b) lower) (suc p.1) ≡ enough → i < n
        → look_of nodes starts nulls plan counts i q ≡ cond (d && more) Turns (cond enough On Stops)
        → (more ≡ true → (t : Place b) → CanStart b t → node_of s b t ≡ q → (z : List ℕ) → TurnedTo nodes starts nulls plan i q counts z
        → Held z k (repeat b lower upper) (t, suc p.1) × Beside counts z k (repeats b + 1))
        → above_at plan i ≡ a → way s b p.0 q ≡ ends → Climbs nodes starts nulls plan counts n q i to → Outcome s k (repeat b lower upper) p a to
    into_body (does t e c m) true enough em en h look f up w climb =
        turned i (t, suc p.1) (climbs_turns h look climb) (rw (w, em, e)) m (f refl t c m)
    into_body (does t e c m) false true em en h look f up w climb =
        ended (rw (w, em, en)) (subst (λ (y : ℕ). Climbs nodes starts nulls plan counts n q y to) up (climbs_on h look climb))
    into_body (does t e c m) false false em en h look f up w climb = halted (rw (w, em, en)) (climbs_stops h look climb)
    into_body (does_not e) true true em en h look f up w climb =
        ended (rw (w, em, e, en)) (subst (λ (y : ℕ). Climbs nodes starts nulls plan counts n q y to) up (climbs_on h look climb))
    into_body (does_not e) true false em en h look f up w climb = halted (rw (w, em, e, en)) (climbs_stops h look climb)
    into_body (does_not e) false true em en h look f up w climb =
        ended (rw (w, em, en)) (subst (λ (y : ℕ). Climbs nodes starts nulls plan counts n q y to) up (climbs_on h look climb))
    into_body (does_not e) false false em en h look f up w climb = halted (rw (w, em, en)) (climbs_stops h look climb)

    in_repeat : get_or counts (k + repeats b) 0 ≡ stop (low (nullable b) lower) upper (suc p.1) → Outcome s k b p.0 i to
        → (way s b p.0 q ≡ ends → Climbs nodes starts nulls plan counts n q i to → Outcome s k (repeat b lower upper) p a to)
        → Outcome s k (repeat b lower upper) p a to
    in_repeat own (turned x t e w m f) go =
        turned x (t, p.1) e (rw w) m
        (λ z v. let g = f z v in
        ((g.0, g.1 (k + repeats b) (inr (omega arith)) ∙ own), λ j o. g.1 j (⊎_elim inl (λ u. inr (omega arith)) o)))
    in_repeat own (ended w c) go = go w c
    in_repeat own (halted w e) go = halted (rw w) e

pub marks_done : {nodes : Nodes} {plan : Links} {x y : ℕ} {c z : List ℕ} → x ≤ y → MarksUp nodes plan x y c z → c ≡ z
marks_done h (done l) = refl
marks_done h (next l w) = absurd (omega arith)

module _
    (nodes : Nodes) (starts : List ℕ)
    (nulls : List Bool)
    (plan : Links) (counts : List ℕ)
    (n q : ℕ)
    (ranks : (i : ℕ) → i < n → rank_at plan i ≡ repeats_below (held nodes) i)
    (some : repeats_below (held nodes) n ≤ 32)
    (begun : TellsStarts (held nodes) starts n)
    (empties : TellsNulls (held nodes) nulls n)
    (target : Target (held nodes) n q)
    (long : length counts ≡ 32) where
  -- what the tables tell of a part
  start_there : (s : ℕ) (e : Expr) → Stands (held nodes) s e → s + size e ≤ n → start_at starts (root s e) ≡ s
  start_there s e st fit = start_of_part (held nodes) starts n s e begun st (omega (arith, root-size s e))

  null_there : (s : ℕ) (e : Expr) → Stands (held nodes) s e → s + size e ≤ n → get_or nulls (root s e) false ≡ nullable e
  null_there s e st fit = null_of_part (held nodes) nulls n s e empties st (omega (arith, root-size s e))

  -- a turn at a sequence
  turned_sequence : (s k : ℕ) (l r : Expr) (a h : ℕ) → Stands (held nodes) s (sequence l r) → Planned plan s (sequence l r) a h
      → s + size l + size r < n → s + size l + size r < a → k ≡ repeats_below (held nodes) s
      → (t : Place r) → CanStart r t → node_of (s + size l) r t ≡ q → (z : List ℕ) → TurnedTo nodes starts nulls plan (s + size l + size r) q counts z
      → (Clear z k (repeats l) × Held z (k + repeats l) r t) × Beside counts z k (repeats l + repeats r)
  turned_sequence s k l r a h st pl fit up e t can m z w =
      let i = s + size l + size r in
      let left = repeats_past (held nodes) s l st.0 in
      let right = repeats_past (held nodes) (s + size l) r st.1 in
      let from : rank_at plan (start_at starts i) ≡ k = ap (rank_at plan) (start_there s (sequence l r) st (omega arith)) ∙ ranks s (omega arith) ∙ sym e in
      let to : rank_at plan i ≡ k + repeats l + repeats r = ranks i fit ∙ right ∙ (omega arith) in
      let kept : raised nodes nulls plan i w.0 ≡ w.0 = ap
      (λ (v : Node). cond (eqb (kind_of v) 4)
      (set w.0 (rank_at plan i) (one_more v (get_or nulls (i - 1) false) (get_or w.0 (rank_at plan i) 0))) w.0)
      st.2 in
      let sets = subst (λ (c : List ℕ). MarksUp nodes plan i (above_at plan q) c z) kept w.2 in
      let sets' = subst (λ (y : ℕ). MarksUp nodes plan i (above_at plan y) w.0 z) (sym m) sets in
      let v =
      entered nodes plan n i ranks some (s + size l) (k + repeats l) r a _ t w.0 z st.1 pl.2 (omega arith) (omega arith) (omega arith) can
      (λ j u y. w.1.gone j (omega arith) (omega arith)) (w.1.long ∙ long) sets' in
      subst (λ (c : List ℕ). (Clear c k (repeats l) × Held c (k + repeats l) r t) × Beside counts c k (repeats l + repeats r)) (marks_done (omega arith) v.on) (
        (λ j u y. v.beside j (inl y) ∙ w.1.gone j (omega arith) (omega arith), v.holds),
        λ j o.
            v.beside j (⊎_elim (λ y. inl (omega arith)) (λ y. inr (omega arith)) o)
            ∙ w.1.kept j (⊎_elim (λ y. inl (omega arith)) (λ y. inr (omega arith)) o),
      )

  -- what stands at a repeat: its bounds, its rank, and its counter
  module _
      (s k : ℕ)
      (b : Expr)
      (lower : ℕ)
      (upper : Upper)
      (st : Stands (held nodes) s (repeat b lower upper))
      (fit : s + size b < n)
      (e : k ≡ repeats_below (held nodes) s) where
    u : ℕ
    u = st.1.0

    rank : rank_at plan (s + size b) ≡ k + repeats b
    rank = let r = rank_of_repeat nodes plan n 0 ranks some s b lower upper st fit in omega arith

    before : s + size b - 1 ≡ root s b
    before = let z = root-size s b in omega arith

    null_body : get_or nulls (s + size b - 1) false ≡ nullable b
    null_body = ap (λ (y : ℕ). get_or nulls y false) before ∙ null_there s b st.0 (omega arith)

    raises : (p : ℕ) (z : List ℕ) → get_or z (k + repeats b) 0 ≡ stop (low (nullable b) lower) upper (suc p) → another p upper ≡ true
        → raised nodes nulls plan (s + size b) z ≡ set z (k + repeats b) (stop (low (nullable b) lower) upper (suc (suc p)))
    unfolding u
    raises p z held' more =
        let i = s + size b in
        let c = get_or z (k + repeats b) 0 in
        ap (λ (m : Node). cond (eqb (kind_of m) 4) (set z (rank_at plan i) (one_more m (get_or nulls (i - 1) false) (get_or z (rank_at plan i) 0))) z) st.1.1
        ∙ ap (λ (j : ℕ). set z j (one_more (node 4 0 (root s b) lower u) (get_or nulls (i - 1) false) (get_or z j 0))) rank
        ∙ ap (λ (v : Bool). set z (k + repeats b) (min (c + 1) (most (low v lower) (bound u)))) null_body
        ∙ ap (λ (v : Upper). set z (k + repeats b) (min (c + 1) (most (low (nullable b) lower) v))) (sym st.1.2)
        ∙ ap (set z (k + repeats b)) (one_more_law p (low (nullable b) lower) c upper held' more)

    looks : (p : ℕ) → get_or counts (k + repeats b) 0 ≡ stop (low (nullable b) lower) upper (suc p)
        → look_of nodes starts nulls plan counts (s + size b) q
        ≡ cond (begins_of starts plan (root s b) q && another p upper) Turns (cond (leb (low (nullable b) lower) (suc p)) On Stops)
    unfolding u
    looks p held' =
        let c = get_or counts (k + repeats b) 0 in
        let i = s + size b in
        ap
        (λ (m : Node). cond (eqb (kind_of m) 4) (look_repeat m starts nulls plan (get_or counts (rank_at plan i) 0) (i - 1) q) (look_into starts nulls plan (i - 1) q))
        st.1.1
        ∙ ap (λ (j : ℕ). look_repeat (node 4 0 (root s b) lower u) starts nulls plan (get_or counts j 0) (i - 1) q) rank
        ∙ ap (λ (v : Bool). cond (begins_of starts plan (i - 1) q && allowed (c + 1) (bound u)) Turns (cond (leb (low v lower) c) On Stops)) null_body
        ∙ ap (λ (v : Upper). cond (begins_of starts plan (i - 1) q && allowed (c + 1) v) Turns (cond (leb (low (nullable b) lower) c) On Stops)) (sym st.1.2)
        ∙ ap (λ (v : Bool). cond (begins_of starts plan (i - 1) q && v) Turns (cond (leb (low (nullable b) lower) c) On Stops))
        (more_law p (low (nullable b) lower) c upper held')
        ∙ ap (λ (v : Bool). cond (begins_of starts plan (i - 1) q && another p upper) Turns (cond v On Stops))
        (enough_law p (low (nullable b) lower) c upper held')
        ∙ ap (λ (y : ℕ). cond (begins_of starts plan y q && another p upper) Turns (cond (leb (low (nullable b) lower) (suc p)) On Stops)) before

    -- a turn at a repeat
    turned_repeat : (a h p : ℕ) → Planned plan s (repeat b lower upper) a h
        → get_or counts (k + repeats b) 0 ≡ stop (low (nullable b) lower) upper (suc p) → another p upper ≡ true
        → (t : Place b) → CanStart b t → node_of s b t ≡ q → (z : List ℕ) → TurnedTo nodes starts nulls plan (s + size b) q counts z
        → Held z k (repeat b lower upper) (t, suc p) × Beside counts z k (repeats b + 1)
    turned_repeat a h p pl held' more t can m z w =
        let i = s + size b in
        let r = rank in
        let few = rank_of_repeat nodes plan n 0 ranks some s b lower upper st fit in
        let from : rank_at plan (start_at starts i) ≡ k =
        ap (rank_at plan) (start_there s (repeat b lower upper) st (omega arith)) ∙ ranks s (omega arith) ∙ sym e in
        let d = set w.0 (k + repeats b) (stop (low (nullable b) lower) upper (suc (suc p))) in
        let other : (j : ℕ) → (j ≡ k + repeats b → ⊥) → get_or d j 0 ≡ get_or w.0 j 0 = λ j o. get_or-set_other w.0 (k + repeats b) j _ 0 o in
        let sets = subst (λ (c : List ℕ). MarksUp nodes plan i (above_at plan q) c z) (raises p w.0 (w.1.kept (k + repeats b) (inr (omega arith)) ∙ held') more) w.2 in
        let sets' = subst (λ (y : ℕ). MarksUp nodes plan i (above_at plan y) d z) (sym m) sets in
        let v =
        entered nodes plan n i ranks some s k b i h t d z st.0 pl.1 (omega arith) (omega arith) e can
        (λ j x y. other j (λ o. omega arith) ∙ w.1.gone j (omega arith) (omega arith)) (length-set w.0 _ _ ∙ w.1.long ∙ long) sets' in
        subst (λ (c : List ℕ). Held c k (repeat b lower upper) (t, suc p) × Beside counts c k (repeats b + 1)) (marks_done (omega arith) v.on) (
          (
            v.holds,
            v.beside (k + repeats b) (inr (omega arith)) ∙ get_or-set_same w.0 (k + repeats b) _ 0 (omega (arith, w.1.long ∙ long)),
          ),
          λ j o.
              v.beside j (⊎_elim inl (λ y. inr (omega arith)) o)
              ∙ other j (⊎_elim (λ y x. omega arith) (λ y x. omega arith) o)
              ∙ w.1.kept j (⊎_elim (λ y. inl (omega arith)) (λ y. inr (omega arith)) o),
        )

  looks_sequence : (s : ℕ) (l r : Expr) → Stands (held nodes) s (sequence l r) → s + size l + size r < n
      → look_of nodes starts nulls plan counts (s + size l + size r) q
      ≡ cond (begins_of starts plan (root (s + size l) r) q) Turns (cond (nullable r) On Stops)
  looks_sequence s l r st fit =
      let i = s + size l + size r in
      let z = root-size (s + size l) r in
      let before : i - 1 ≡ root (s + size l) r = omega arith in
      ap
      (λ (m : Node). cond (eqb (kind_of m) 4) (look_repeat (held nodes i) starts nulls plan (get_or counts (rank_at plan i) 0) (i - 1) q) (look_into starts nulls plan (i - 1) q))
      st.2
      ∙ ap (λ (y : ℕ). look_into starts nulls plan y q) before
      ∙ ap (λ (v : Bool). cond (begins_of starts plan (root (s + size l) r) q) Turns (cond v On Stops)) (null_there (s + size l) r st.1 (omega arith))

  -- the right part begins no higher than the plan says
  right_up : (l : Bool) (h i y : ℕ) → y ≤ i → i ≤ h → y ≤ cond l h y
  right_up true h i y a b = omega arith
  right_up false h i y a b = omega arith

  -- the way up from a place of a part is the way within the part, and then the way up from the node above it
  pub climbs : (s k : ℕ) (e : Expr) (a h : ℕ) (p : Place e) (to : Turn) → Stands (held nodes) s e → Planned plan s e a h
      → root s e ≤ h → s + size e ≤ n → s + size e ≤ a → k ≡ repeats_below (held nodes) s → Held counts k e p
      → Climbs nodes starts nulls plan counts n q (above_at plan (node_of s e p)) to
      → Outcome nodes starts nulls plan counts n q s k e p a to
  climbs s k empty a h p to st pl up fit over e hd w = absurd hd
  climbs s k (event c) a h p to st pl up fit over e hd w = ended refl (subst (λ (y : ℕ). Climbs nodes starts nulls plan counts n q y to) pl.0 w)
  climbs s k (choice l r) a h (inl p) to st pl up fit over e hd w =
      left_choice nodes starts nulls plan counts n q hd.1
      (climbs s k l a h p to st.0 pl.1 (omega (arith, root-size s l)) (omega arith) (omega arith) e hd.0 w)
  climbs s k (choice l r) a h (inr p) to st pl up fit over e hd w =
      right_choice nodes starts nulls plan counts n q hd.0
      (climbs (s + size l) (k + repeats l) r a h p to st.1 pl.2 (omega (arith, root-size (s + size l) r)) (omega arith) (omega arith)
      (omega (arith, repeats_past (held nodes) s l st.0)) hd.1 w)
  climbs s k (sequence l r) a h (inl p) to st pl up fit over e hd w =
      let i = s + size l + size r in
      let last = root-size (s + size l) r in
      let test =
      begins_by_test (held nodes) starts plan n (s + size l) r a _ q st.1 pl.2 (start_there (s + size l) r st.1 (omega arith))
      (right_up (nullable l) h i (root (s + size l) r) (omega arith) up) (omega arith) target in
      left_sequence nodes starts nulls plan counts n q hd.1
      (climbs s k l i h p to st.0 pl.1 (omega (arith, root-size s l)) (omega arith) (omega arith) e hd.0 w)
      (into_right nodes starts nulls plan counts n q test (nullable r) refl (omega arith) (looks_sequence s l r st (omega arith))
      (turned_sequence s k l r a h st pl (omega arith) (omega arith) e) pl.0.0)
  climbs s k (sequence l r) a h (inr p) to st pl up fit over e hd w =
      right_sequence nodes starts nulls plan counts n q hd.0
      (climbs (s + size l) (k + repeats l) r a _ p to st.1 pl.2
      (right_up (nullable l) h (s + size l + size r) (root (s + size l) r) (omega (arith, root-size (s + size l) r)) up) (omega arith) (omega arith)
      (omega (arith, repeats_past (held nodes) s l st.0)) hd.1 w)
  climbs s k (repeat b lower upper) a h p to st pl up fit over e hd w =
      let i = s + size b in
      let test =
      begins_by_test (held nodes) starts plan n s b i h q st.0 pl.1 (start_there s b st.0 (omega arith)) (omega (arith, root-size s b)) (omega arith) target in
      in_repeat nodes starts nulls plan counts n q lower upper p hd.1
      (climbs s k b i h p.0 to st.0 pl.1 (omega (arith, root-size s b)) (omega arith) (omega arith) e hd.0 w)
      (into_body nodes starts nulls plan counts n q lower upper p test (another p.1 upper) (leb (low (nullable b) lower) (suc p.1)) refl refl (omega arith)
      (looks s k b lower upper st (omega arith) e p.1 hd.1)
      (turned_repeat s k b lower upper st (omega arith) e a h p.1 pl hd.1) pl.0.0)
