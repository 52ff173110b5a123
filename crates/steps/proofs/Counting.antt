-- The counters of a part lie together, and entering a part sets those of the repeats around the event. Assumes nothing.
use mathlib.Core.Path.{◌≡◌, refl, sym, ap, subst, ◌∙◌}
use mathlib.Core.Logic.{◌⊎◌, inl, inr, ⊎_elim}
use mathlib.Core.Bool.{Bool, cond}
use mathlib.Core.List.{List}
use Prim.Native.Nat.{ℕ, zero, suc, ◌+◌, ◌≤◌, ◌<◌}
use native.Mathlib.Omega.{arith}
use borrow.Author.Tests.{eq-eqb, ne_eqb}
use lib.ListN.{length, get_or, set, length-set}
use lib.Seq.{get_or-set_same, get_or-set_other}
use Rattle.plan.specs.Link.{Links}
use Rattle.meaning.specs.Expr.{Expr, empty, event, choice, sequence, repeat, Upper, upto, endless, size}
use Rattle.meaning.specs.Node.{Stands, repeats_below}
use Rattle.meaning.specs.Normal.{nullable, low}
use Rattle.meaning.specs.State.{stop}
use Rattle.meaning.specs.Theory.Places.{Place, node_of, CanStart}
use Rattle.procedure.specs.Entry.{Nodes, held, kind_of}
use Rattle.plan.specs.Plan.{above_at, rank_at, Planned}
use Rattle.meaning.proofs.File.Ranks.{below_rises, repeats_past}
use Rattle.meaning.specs.Theory.Counts.{Clear, Held, repeats}
use Rattle.steps.specs.Counts.{marked, MarksUp, done, next}

-- ---- a part's counters depend on its ranks alone

-- the two agree on m ranks from k on
abbrev pub Agree : List ℕ → List ℕ → ℕ → ℕ → Type 0
Agree c d k m = (j : ℕ) → k ≤ j → j < k + m → get_or d j 0 ≡ get_or c j 0

-- the two agree but for m ranks from k on
abbrev pub Beside : List ℕ → List ℕ → ℕ → ℕ → Type 0
Beside c d k m = (j : ℕ) → (j < k) ⊎ (k + m ≤ j) → get_or d j 0 ≡ get_or c j 0

pub clear_same : (c d : List ℕ) (k m : ℕ) → Agree c d k m → Clear c k m → Clear d k m
clear_same c d k m f z j a b = f j a b ∙ z j a b

pub held_same : (c d : List ℕ) (k : ℕ) (e : Expr) (p : Place e) → Agree c d k (repeats e) → Held c k e p → Held d k e p
held_same c d k empty p f w = w
held_same c d k (event a) p f w = tt
held_same c d k (choice l r) (inl p) f w =
    (held_same c d k l p (λ j a b. f j a (omega arith)) w.0, clear_same c d (k + repeats l) (repeats r) (λ j a b. f j (omega arith) (omega arith)) w.1)
held_same c d k (choice l r) (inr p) f w =
    (clear_same c d k (repeats l) (λ j a b. f j a (omega arith)) w.0, held_same c d (k + repeats l) r p (λ j a b. f j (omega arith) (omega arith)) w.1)
held_same c d k (sequence l r) (inl p) f w =
    (held_same c d k l p (λ j a b. f j a (omega arith)) w.0, clear_same c d (k + repeats l) (repeats r) (λ j a b. f j (omega arith) (omega arith)) w.1)
held_same c d k (sequence l r) (inr p) f w =
    (clear_same c d k (repeats l) (λ j a b. f j a (omega arith)) w.0, held_same c d (k + repeats l) r p (λ j a b. f j (omega arith) (omega arith)) w.1)
held_same c d k (repeat b lower upper) p f w =
    (held_same c d k b p.0 (λ j a q. f j a (omega arith)) w.0, f (k + repeats b) (omega arith) (omega arith) ∙ w.1)

-- ---- setting the counters on the way into a part

-- a first block is counted as 1, whatever the bounds
pub stop_first : (lower : ℕ) (upper : Upper) (k : ℕ) → k ≡ zero → stop lower upper (suc k) ≡ 1
stop_first lower (upto n) k e = omega arith
stop_first lower endless k e = omega arith

-- the counters after the way from a place up to the part's root: d are the part's, and the way goes on from the node a above it
pub record CountersEntered (nodes : Nodes) (plan : Links) (x a k : ℕ) (e : Expr) (t : Place e) (c z : List ℕ) : Type 0 where
  pub now : List ℕ
  pub on : MarksUp nodes plan x a now z
  pub holds : Held now k e t
  pub beside : Beside c now k (repeats e)
  pub long : length now ≡ 32

marks_next : {nodes : Nodes} {plan : Links} {x y : ℕ} {c z : List ℕ} → y < x → MarksUp nodes plan x y c z → MarksUp nodes plan x (above_at plan y) (marked nodes plan y c) z
marks_next h (done l) = absurd (omega arith)
marks_next h (next l w) = w

marks_repeat : {nodes : Nodes} {plan : Links} {x y : ℕ} {c z : List ℕ} → y < x → kind_of (held nodes y) ≡ 4 → MarksUp nodes plan x y c z
    → MarksUp nodes plan x (above_at plan y) (set c (rank_at plan y) 1) z
marks_repeat {nodes} {plan} {x} {y} {c} {z} h k w =
    subst (λ (b : Bool). MarksUp nodes plan x (above_at plan y) (cond b (set c (rank_at plan y) 1) c) z) (eq-eqb (kind_of (held nodes y)) 4 k) (marks_next h w)

marks_other : {nodes : Nodes} {plan : Links} {x y : ℕ} {c z : List ℕ} → y < x → (kind_of (held nodes y) ≡ 4 → ⊥) → MarksUp nodes plan x y c z
    → MarksUp nodes plan x (above_at plan y) c z
marks_other {nodes} {plan} {x} {y} {c} {z} h k w =
    subst (λ (b : Bool). MarksUp nodes plan x (above_at plan y) (cond b (set c (rank_at plan y) 1) c) z) (ne_eqb (kind_of (held nodes y)) 4 k) (marks_next h w)

module _ {nodes : Nodes} {plan : Links} {x a k : ℕ} (l r : Expr) {c z : List ℕ} where
  -- one child is entered, and the counters of the other stay 0
  clear_right : {t : Place l} (w : CountersEntered nodes plan x a k l t c z) → Clear c k (repeats l + repeats r) → Clear w.now (k + repeats l) (repeats r)
  clear_right w clear j u v = w.beside j (inr u) ∙ clear j (omega arith) (omega arith)

  clear_left : {t : Place r} (w : CountersEntered nodes plan x a (k + repeats l) r t c z) → Clear c k (repeats l + repeats r) → Clear w.now k (repeats l)
  clear_left w clear j u v = w.beside j (inl v) ∙ clear j u (omega arith)

  beside_left : {t : Place l} (w : CountersEntered nodes plan x a k l t c z) → Beside c w.now k (repeats l + repeats r)
  beside_left w j o = w.beside j (⊎_elim inl (λ u. inr (omega arith)) o)

  beside_right : {t : Place r} (w : CountersEntered nodes plan x a (k + repeats l) r t c z) → Beside c w.now k (repeats l + repeats r)
  beside_right w j o = w.beside j (⊎_elim (λ u. inl (omega arith)) (λ u. inr (omega arith)) o)

module _ (nodes : Nodes) (plan : Links) (n x : ℕ) (ranks : (i : ℕ) → i < n → rank_at plan i ≡ repeats_below (held nodes) i) (some : repeats_below (held nodes) n ≤ 32) where
  -- a repeat that stands in the nodes has its rank, which is below 32
  pub rank_of_repeat : (s : ℕ) (b : Expr) (lower : ℕ) (upper : Upper) → Stands (held nodes) s (repeat b lower upper) → s + size b < n
      → (rank_at plan (s + size b) ≡ repeats_below (held nodes) s + repeats b) × (repeats_below (held nodes) s + repeats b < 32)
  rank_of_repeat s b lower upper st fit =
      let past = repeats_past (held nodes) s b st.0 in
      let whole = repeats_past (held nodes) s (repeat b lower upper) st in
      let less = below_rises (held nodes) (s + (size b + 1)) n (omega arith) in
      (ranks (s + size b) fit ∙ past, omega arith)

  -- the body is entered, and with it the repeat
  entered_repeat : (s k : ℕ) (b : Expr) (lower : ℕ) (upper : Upper) (a h : ℕ) (t : Place b × ℕ) (c z : List ℕ)
      → Stands (held nodes) s (repeat b lower upper) → Planned plan s (repeat b lower upper) a h → s + size b < n → s + size b < x
      → k ≡ repeats_below (held nodes) s → t.1 ≡ zero
      → CountersEntered nodes plan x (s + size b) k b t.0 c z
      → CountersEntered nodes plan x a k (repeat b lower upper) t c z
  entered_repeat s k b lower upper a h t c z st pl fit below e first w =
      let rank = rank_of_repeat s b lower upper st fit in
      let own : rank_at plan (s + size b) ≡ k + repeats b = omega arith in
      let on = marks_repeat below (ap kind_of st.1.1) w.on in
      let there : get_or (set w.now (k + repeats b) 1) (k + repeats b) 0 ≡ 1 = get_or-set_same w.now (k + repeats b) 1 0 (omega (arith, w.long)) in
      record {
        now = set w.now (k + repeats b) 1;
        on = subst (λ (y : ℕ). MarksUp nodes plan x y (set w.now (k + repeats b) 1) z) pl.0.0
            (subst (λ (j : ℕ). MarksUp nodes plan x (above_at plan (s + size b)) (set w.now j 1) z) own on);
        holds = (
          held_same w.now _ k b t.0 (λ j l u. get_or-set_other w.now (k + repeats b) j 1 0 (omega arith)) w.holds,
          there ∙ sym (stop_first (low (nullable b) lower) upper t.1 first),
        );
        beside = λ j o. get_or-set_other w.now (k + repeats b) j 1 0 (⊎_elim (λ l. omega arith) (λ l. omega arith) o)
            ∙ w.beside j (⊎_elim inl (λ l. inr (omega arith)) o);
        long = length-set w.now (k + repeats b) 1 ∙ w.long;
      }

  -- on the way up from the event with which a part begins, each repeat of the part around it gets the counter 1
  pub entered : (s k : ℕ) (e : Expr) (a h : ℕ) (t : Place e) (c z : List ℕ) → Stands (held nodes) s e → Planned plan s e a h
      → s + size e ≤ n → s + size e ≤ x → k ≡ repeats_below (held nodes) s → CanStart e t → Clear c k (repeats e) → length c ≡ 32
      → MarksUp nodes plan x (above_at plan (node_of s e t)) c z
      → CountersEntered nodes plan x a k e t c z
  entered s k empty a h t c z st pl fit below e can clear long w = absurd can
  entered s k (event d) a h t c z st pl fit below e can clear long w =
      record { now = c; on = subst (λ (y : ℕ). MarksUp nodes plan x y c z) pl.0 w; holds = tt; beside = λ j o. refl; long = long }
  entered s k (choice l r) a h (inl t) c z st pl fit below e can clear long w =
      let v = entered s k l a h t c z st.0 pl.1 (omega arith) (omega arith) e can (λ j u v. clear j u (omega arith)) long w in
      record { now = v.now; on = v.on; holds = (v.holds, clear_right l r v clear); beside = beside_left l r v; long = v.long }
  entered s k (choice l r) a h (inr t) c z st pl fit below e can clear long w =
      let past = repeats_past (held nodes) s l st.0 in
      let v =
      entered (s + size l) (k + repeats l) r a h t c z st.1 pl.2 (omega arith) (omega arith) (omega arith) can
      (λ j u v. clear j (omega arith) (omega arith)) long w in
      record { now = v.now; on = v.on; holds = (clear_left l r v clear, v.holds); beside = beside_right l r v; long = v.long }
  entered s k (sequence l r) a h (inl t) c z st pl fit below e can clear long w =
      let v =
      entered s k l (s + size l + size r) h t c z st.0 pl.1 (omega arith) (omega arith) e can (λ j u v. clear j u (omega arith)) long w in
      let on = marks_other (omega arith) (λ k. omega (arith, sym (ap kind_of st.2) ∙ k)) v.on in
      record {
        now = v.now;
        on = subst (λ (y : ℕ). MarksUp nodes plan x y v.now z) pl.0.0 on;
        holds = (v.holds, clear_right l r v clear);
        beside = beside_left l r v;
        long = v.long;
      }
  entered s k (sequence l r) a h (inr t) c z st pl fit below e can clear long w =
      let past = repeats_past (held nodes) s l st.0 in
      let v =
      entered (s + size l) (k + repeats l) r a _ t c z st.1 pl.2 (omega arith) (omega arith) (omega arith) can.1
      (λ j u v. clear j (omega arith) (omega arith)) long w in
      record { now = v.now; on = v.on; holds = (clear_left l r v clear, v.holds); beside = beside_right l r v; long = v.long }
  entered s k (repeat b lower upper) a h t c z st pl fit below e can clear long w =
      entered_repeat s k b lower upper a h t c z st pl (omega arith) (omega arith) e can.1
      (entered s k b (s + size b) h t.0 c z st.0 pl.1 (omega arith) (omega arith) e can.0 (λ j u v. clear j u (omega arith)) long w)
