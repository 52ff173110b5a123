-- What the downward pass leaves in the plan: each part's nodes say what stands above them, and their ranks. Assumes nothing.
use mathlib.Core.Path.{◌≡◌, refl, sym, ap, subst, ◌∙◌}
use mathlib.Core.Logic.{◌⊎◌, inl, inr, ⊎_elim}
use mathlib.Core.Bool.{Bool, true, false, cond}
use mathlib.Core.List.{List}
use Prim.Native.Nat.{ℕ, suc, ◌+◌, ◌-◌, ◌≤◌, ◌<◌}
use native.Mathlib.Nat.{mod-eq_of_lt}
use native.Mathlib.Omega.{arith}
use lib.ListN.{length, get_or, set, length-set}
use lib.Seq.{get_or-set_same, get_or-set_other}
use Rattle.meaning.specs.Expr.{Expr, empty, event, choice, sequence, repeat, size, root}
use Rattle.meaning.specs.Node.{Node, Stands, repeats_below}
use Rattle.meaning.specs.Normal.{nullable}
use Rattle.meaning.proofs.Expressions.Parts.{root-size}
use Rattle.procedure.specs.Entry.{Nodes, held}
use Rattle.procedure.specs.Listing.{TellsNulls}
use Rattle.procedure.proofs.Empties.{null_of_part}
use Rattle.procedure.proofs.Standing.{part_start}
use Rattle.plan.specs.Link.{Link, Links, above_in, begins_in, rank_in, ranked_in, told_in, untold}
use Rattle.plan.specs.Plan.{above_at, begins_at, rank_at, Told, Planned}
use Rattle.plan.specs.Filling.{begins_right, down, link_with, rank_to, tell, visit}
use Rattle.plan.proofs.Beginnings.{among}

-- ---- a link

told_above : (a h : ℕ) → a < 1024 → above_in (told_in a h) ≡ a
told_above a h l = mod-eq_of_lt l

told_begins : (a h : ℕ) → h < 1024 → begins_in (told_in a h) ≡ h
told_begins a h m = mod-eq_of_lt m

ranked_rank : (x : Link) (k : ℕ) → k < 64 → rank_in (ranked_in x k) ≡ k
ranked_rank x k h = mod-eq_of_lt h

-- ---- what stays as it was

-- only links at nodes from lo on and before hi change
pub record Moves (lo hi : ℕ) (p d : Links) : Type 0 where
  pub kept : (j : ℕ) → (j < lo) ⊎ (hi ≤ j) → get_or d j untold ≡ get_or p j untold
  pub long : length d ≡ length p

moves_then : {lo hi a b c d : ℕ} {p q r : Links} → lo ≤ a → b ≤ hi → lo ≤ c → d ≤ hi → Moves a b p q → Moves c d q r → Moves lo hi p r
moves_then la bh lc dh v w = record {
  kept = λ j o.
      w.kept j (⊎_elim (λ l. inl (omega arith)) (λ l. inr (omega arith)) o)
      ∙ v.kept j (⊎_elim (λ l. inl (omega arith)) (λ l. inr (omega arith)) o);
  long = w.long ∙ v.long;
}

moves_set : (lo hi c : ℕ) (v : Link) (p : Links) → lo ≤ c → c < hi → Moves lo hi p (set p c v)
moves_set lo hi c v p lc ch = record {
  kept = λ j o. get_or-set_other p c j _ untold (λ e. ⊎_elim (λ l. omega arith) (λ l. omega arith) o);
  long = length-set p c v;
}

pub told_there : (c a h : ℕ) (p : Links) → c < length p → a < 1024 → h < 1024 → Told (tell p c a h) c a h
told_there c a h p cl la lh =
    let e = get_or-set_same p c (told_in a h) untold cl in
    (ap above_in e ∙ told_above a h la, ap begins_in e ∙ told_begins a h lh)

told_kept : (p d : Links) (i a h : ℕ) → get_or d i untold ≡ get_or p i untold → Told p i a h → Told d i a h
told_kept p d i a h e w = (ap above_in e ∙ w.0, ap begins_in e ∙ w.1)

told_ranked : (p : Links) (i k a h : ℕ) → i < length p → Told p i a h → Told (rank_to p i k) i a h
told_ranked p i k a h l w =
    let e = get_or-set_same p i (ranked_in (get_or p i untold) k) untold l in (ap above_in e ∙ w.0, ap begins_in e ∙ w.1)

-- what is planned of a part stands in the links of its nodes
planned_kept : (p d : Links) (s : ℕ) (e : Expr) (a h : ℕ) → ((j : ℕ) → s ≤ j → j < s + size e → get_or d j untold ≡ get_or p j untold)
    → Planned p s e a h → Planned d s e a h
planned_kept p d s empty a h f w = told_kept p d s a h (f s (omega arith) (omega arith)) w
planned_kept p d s (event c) a h f w = told_kept p d s a h (f s (omega arith) (omega arith)) w
planned_kept p d s (choice l r) a h f w = (
  told_kept p d (s + size l + size r) a h (f (s + size l + size r) (omega arith) (omega arith)) w.0,
  planned_kept p d s l a h (λ j u v. f j u (omega arith)) w.1,
  planned_kept p d (s + size l) r a h (λ j u v. f j (omega arith) (omega arith)) w.2,
)
planned_kept p d s (sequence l r) a h f w = (
  told_kept p d (s + size l + size r) a h (f (s + size l + size r) (omega arith) (omega arith)) w.0,
  planned_kept p d s l _ h (λ j u v. f j u (omega arith)) w.1,
  planned_kept p d (s + size l) r a _ (λ j u v. f j (omega arith) (omega arith)) w.2,
)
planned_kept p d s (repeat b lower upper) a h f w = (
  told_kept p d (s + size b) a h (f (s + size b) (omega arith) (omega arith)) w.0,
  planned_kept p d s b _ h (λ j u v. f j u (omega arith)) w.1,
)

small_right : (b : Bool) (h y : ℕ) → h < 1024 → y < 1024 → cond b h y < 1024
small_right true h y l m = l
small_right false h y l m = m

-- ---- the downward pass over a part

module _ (nodes : Nodes) (nulls : List Bool) (n : ℕ) (most : n ≤ 512) (few : (i : ℕ) → i < n → repeats_below (held nodes) i < 64)
    (known : TellsNulls (held nodes) nulls n) where
  -- the links from s on and before t have the ranks of their nodes
  abbrev Ranks : Links → ℕ → ℕ → Type 0
  Ranks p s t = (j : ℕ) → s ≤ j → j < t → rank_at p j ≡ repeats_below (held nodes) j

  -- the pass over the part leaves the plan `after`, in which the part's nodes are told, and goes on below the part
  pub record DownTo (p : Links) (s : ℕ) (e : Expr) (a h : ℕ) : Type 0 where
    pub after : Links
    pub rest : down nodes nulls p (s + size e) ≡ down nodes nulls after s
    pub planned : Planned after s e a h
    pub ranks : Ranks after s (s + size e)
    pub moves : Moves s (s + size e) p after

  abbrev rank : ℕ → ℕ
  rank i = repeats_below (held nodes) i

  rank_there : (p d : Links) (i : ℕ) → i < n → length p ≡ 512 → get_or d i untold ≡ get_or (rank_to p i (rank i)) i untold → rank_at d i ≡ rank i
  rank_there p d i l long e =
      ap rank_in (e ∙ get_or-set_same p i (ranked_in (get_or p i untold) (rank i)) untold (omega arith))
      ∙ ranked_rank (get_or p i untold) (rank i) (few i l)

  visit_as : (p : Links) (i : ℕ) (m : Node) → held nodes i ≡ m → visit nodes nulls p i ≡ link_with m nulls (rank_to p i (rank i)) i
  visit_as p i m e = ap (λ (x : Node). link_with x nulls (rank_to p i (rank i)) i) e

  down_next : (p d : Links) (s m : ℕ) → m ≡ suc s → visit nodes nulls p s ≡ d → down nodes nulls p m ≡ down nodes nulls d s
  down_next p d s m e f = ap (down nodes nulls p) e ∙ ap (λ (x : Links). down nodes nulls x s) f

  -- a node without children only gets its rank
  down_leaf : (s : ℕ) (a h : ℕ) (p : Links) → s < n → length p ≡ 512 → Told p s a h → visit nodes nulls p s ≡ rank_to p s (rank s)
      → (d : Links) × (down nodes nulls p (s + 1) ≡ down nodes nulls d s) × Told d s a h × Ranks d s (s + 1) × Moves s (s + 1) p d
  down_leaf s a h p fit long told same =
      let d = rank_to p s (rank s) in (
        d,
        down_next p d s (s + 1) (omega arith) same,
        told_ranked p s (rank s) a h (omega arith) told,
        λ j u v. let here : j ≡ s = omega arith in subst (λ (i : ℕ). rank_at d i ≡ rank i) (sym here) (rank_there p d s fit long refl),
        moves_set s (s + 1) s _ p (omega arith) (omega arith),
      )

  -- two children are told, the right is passed and then the left
  down_pair : (s : ℕ) (l r : Expr) (a h al hl ar hr : ℕ) (p : Links) → s + size l + size r < n → length p ≡ 512
      → Told p (s + size l + size r) a h
      → visit nodes nulls p (s + size l + size r) ≡ tell (tell (rank_to p (s + size l + size r) (rank (s + size l + size r))) (root s l) al hl) (root (s + size l) r) ar hr
      → al < 1024 → hl < 1024 → ar < 1024 → hr < 1024
      → ((d : Links) → length d ≡ 512 → Told d (root (s + size l) r) ar hr → DownTo d (s + size l) r ar hr)
      → ((d : Links) → length d ≡ 512 → Told d (root s l) al hl → DownTo d s l al hl)
      → (d : Links)
      × (down nodes nulls p (s + (size l + size r + 1)) ≡ down nodes nulls d s)
      × Told d (s + size l + size r) a h
      × Planned d s l al hl
      × Planned d (s + size l) r ar hr
      × Ranks d s (s + (size l + size r + 1))
      × Moves s (s + (size l + size r + 1)) p d
  down_pair s l r a h al hl ar hr p fit long told same sal shl sar shr right left =
      let i = s + size l + size r in
      let zl = root-size s l in
      let zr = root-size (s + size l) r in
      let sl = part_start s l in
      let sr = part_start (s + size l) r in
      let p0 = rank_to p i (rank i) in
      let p1 = tell p0 (root s l) al hl in
      let p2 = tell p1 (root (s + size l) r) ar hr in
      let m0 : Moves s (suc i) p p0 = moves_set s (suc i) i _ p (omega arith) (omega arith) in
      let m1 : Moves s i p0 p1 = moves_set s i (root s l) _ p0 (omega arith) (omega arith) in
      let m2 : Moves s i p1 p2 = moves_set s i (root (s + size l) r) _ p1 (omega arith) (omega arith) in
      let m12 : Moves s i p0 p2 = moves_then (omega arith) (omega arith) (omega arith) (omega arith) m1 m2 in
      let long0 : length p0 ≡ 512 = m0.long ∙ long in
      let long1 : length p1 ≡ 512 = m1.long ∙ long0 in
      let long2 : length p2 ≡ 512 = m2.long ∙ long1 in
      let v = right p2 long2 (told_there (root (s + size l) r) ar hr p1 (omega arith) sar shr) in
      let told_left : Told p2 (root s l) al hl =
      told_kept p1 p2 (root s l) al hl (get_or-set_other p1 (root (s + size l) r) (root s l) _ untold (omega arith))
      (told_there (root s l) al hl p0 (omega arith) sal shl) in
      let w =
      left v.after (v.moves.long ∙ long2)
      (told_kept p2 v.after (root s l) al hl (v.moves.kept (root s l) (inl (omega arith))) told_left) in
      let m : Moves s (s + (size l + size r + 1)) p w.after =
      moves_then {c = s} {d = i} (omega arith) (omega arith) (omega arith) (omega arith) m0
      (moves_then {c = s} {d = i} (omega arith) (omega arith) (omega arith) (omega arith) m12
      (moves_then {lo = s} {hi = i} (omega arith) (omega arith) (omega arith) (omega arith) v.moves w.moves)) in
      let here : get_or w.after i untold ≡ get_or p0 i untold = w.moves.kept i (inr (omega arith)) ∙ v.moves.kept i (inr (omega arith)) ∙ m12.kept i (inr (omega arith)) in
      let next : s + (size l + size r + 1) ≡ suc i = omega arith in (
        w.after,
        ap (down nodes nulls p) next ∙ ap (λ (d : Links). down nodes nulls d i) same ∙ v.rest ∙ w.rest,
        told_kept p0 w.after i a h here (told_ranked p i (rank i) a h (omega arith) told),
        w.planned,
        planned_kept v.after w.after (s + size l) r ar hr (λ j x y. w.moves.kept j (inr x)) v.planned,
        λ j x y. among (s + size l) i j (omega arith)
            (λ b. w.ranks j x b)
            (λ f b. ap rank_in (w.moves.kept j (inr f)) ∙ v.ranks j f b)
            (λ e. subst (λ (k : ℕ). rank_at w.after k ≡ rank k) (sym e) (rank_there p w.after i fit long here)),
        m,
      )

  -- the downward pass tells a part's nodes what stands above them
  pub down_part : (s : ℕ) (e : Expr) (a h : ℕ) (p : Links) → Stands (held nodes) s e → s + size e ≤ n → a < 1024 → h < 1024
      → length p ≡ 512 → Told p (root s e) a h → DownTo p s e a h
  down_part s empty a h p st fit sa sh long told =
      let w = down_leaf s a h p (omega arith) long told (visit_as p s _ st) in
      record { after = w.0; rest = w.1; planned = w.2; ranks = w.3; moves = w.4 }
  down_part s (event c) a h p st fit sa sh long told =
      let w = down_leaf s a h p (omega arith) long told (visit_as p s _ st) in
      record { after = w.0; rest = w.1; planned = w.2; ranks = w.3; moves = w.4 }
  down_part s (choice l r) a h p st fit sa sh long told =
      let i = s + size l + size r in
      let z = root-size (s + size l) r in
      let before : i - 1 ≡ root (s + size l) r = omega arith in
      let q = rank_to p i (rank i) in
      let here = told_ranked p i (rank i) a h (omega arith) told in
      let same : visit nodes nulls p i ≡ tell (tell q (root s l) a h) (root (s + size l) r) a h =
      visit_as p i _ st.2
      ∙ ap (λ (y : ℕ). tell (tell q (root s l) (above_at q i) (begins_at q i)) y (above_at q i) (begins_at q i)) before
      ∙ ap (λ (y : ℕ). tell (tell q (root s l) y (begins_at q i)) (root (s + size l) r) y (begins_at q i)) here.0
      ∙ ap (λ (y : ℕ). tell (tell q (root s l) a y) (root (s + size l) r) a y) here.1 in
      let w =
      down_pair s l r a h a h a h p (omega arith) long told same sa sh sa sh
      (λ d rd td. down_part (s + size l) r a h d st.1 (omega arith) sa sh rd td)
      (λ d rd td. down_part s l a h d st.0 (omega arith) sa sh rd td) in
      record { after = w.0; rest = w.1; planned = (w.2, w.3, w.4); ranks = w.5; moves = w.6 }
  down_part s (sequence l r) a h p st fit sa sh long told =
      let i = s + size l + size r in
      let z = root-size (s + size l) r in
      let zl = root-size s l in
      let y = root (s + size l) r in
      let before : i - 1 ≡ y = omega arith in
      let q = rank_to p i (rank i) in
      let here = told_ranked p i (rank i) a h (omega arith) told in
      let empties : get_or nulls (root s l) false ≡ nullable l = null_of_part (held nodes) nulls n s l known st.0 (omega arith) in
      let same : visit nodes nulls p i ≡ tell (tell q (root s l) i h) y a (cond (nullable l) h y) =
      visit_as p i _ st.2
      ∙ ap (λ (x : ℕ). tell (tell q (root s l) i (begins_at q i)) x (above_at q i) (begins_right (get_or nulls (root s l) false) (begins_at q i) x)) before
      ∙ ap (λ (x : ℕ). tell (tell q (root s l) i (begins_at q i)) y x (begins_right (get_or nulls (root s l) false) (begins_at q i) y)) here.0
      ∙ ap (λ (x : ℕ). tell (tell q (root s l) i x) y a (begins_right (get_or nulls (root s l) false) x y)) here.1
      ∙ ap (λ (x : Bool). tell (tell q (root s l) i h) y a (cond x h y)) empties in
      let sr = small_right (nullable l) h y sh (omega arith) in
      let w =
      down_pair s l r a h i h a (cond (nullable l) h y) p (omega arith) long told same (omega arith) sh sa sr
      (λ d rd td. down_part (s + size l) r a (cond (nullable l) h y) d st.1 (omega arith) sa sr rd td)
      (λ d rd td. down_part s l i h d st.0 (omega arith) (omega arith) sh rd td) in
      record { after = w.0; rest = w.1; planned = (w.2, w.3, w.4); ranks = w.5; moves = w.6 }
  down_part s (repeat b lower upper) a h p st fit sa sh long told =
      let i = s + size b in
      let z = root-size s b in
      let zs = part_start s b in
      let before : i - 1 ≡ root s b = omega arith in
      let q = rank_to p i (rank i) in
      let here = told_ranked p i (rank i) a h (omega arith) told in
      let d = tell q (root s b) i h in
      let same : visit nodes nulls p i ≡ d =
      visit_as p i _ st.1.1 ∙ ap (λ (x : ℕ). tell q x i (begins_at q i)) before ∙ ap (λ (x : ℕ). tell q (root s b) i x) here.1 in
      let mq : Moves s (s + (size b + 1)) p q = moves_set s (s + (size b + 1)) i _ p (omega arith) (omega arith) in
      let m : Moves s i q d = moves_set s i (root s b) _ q (omega arith) (omega arith) in
      let longq : length q ≡ 512 = mq.long ∙ long in
      let w =
      down_part s b i h d st.0 (omega arith) (omega arith) sh (m.long ∙ longq)
      (told_there (root s b) i h q (omega arith) (omega arith) sh) in
      let kept : get_or w.after i untold ≡ get_or q i untold = w.moves.kept i (inr (omega arith)) ∙ m.kept i (inr (omega arith)) in
      record {
        after = w.after;
        rest = down_next p d i (s + (size b + 1)) (omega arith) same ∙ w.rest;
        planned = (told_kept q w.after i a h kept here, w.planned);
        ranks = λ j x y. among i i j (omega arith) (λ c. w.ranks j x c) (λ f c. absurd (omega arith))
            (λ e. subst (λ (k : ℕ). rank_at w.after k ≡ rank k) (sym e) (rank_there p w.after i (omega arith) long kept));
        moves = moves_then (omega arith) (omega arith) (omega arith) (omega arith) mq
            (moves_then {lo = s} {hi = i} (omega arith) (omega arith) (omega arith) (omega arith) m w.moves);
      }
