-- Whether a part can begin with an event node is one comparison in the plan. Assumes nothing.
use mathlib.Core.Path.{◌≡◌, refl, sym, ap, subst, ◌∙◌}
use mathlib.Core.Logic.{◌⊎◌, inl, inr, ⊎_elim}
use mathlib.Core.Bool.{Bool, true, false, cond}
use mathlib.Core.List.{List}
use Prim.Native.Nat.{ℕ, zero, suc, ◌+◌, ◌≤◌, ◌<◌}
use native.Mathlib.Decide.{dec_le}
use native.Mathlib.Omega.{arith}
use borrow.Author.Tests.{eq-eqb, ne_eqb, le-leb, lt-leb}
use Rattle.plan.specs.Link.{Links}
use Rattle.meaning.specs.Expr.{Expr, empty, event, choice, sequence, repeat, Upper, size, root}
use Rattle.meaning.specs.Node.{Node, node, Stands}
use Rattle.meaning.specs.Normal.{nullable}
use Rattle.meaning.specs.Theory.Places.{Place, node_of, CanStart}
use Rattle.meaning.specs.Theory.Ways.{Entry, enters, apart, entry, map_entry}
use Rattle.meaning.proofs.Expressions.Parts.{root-size}
use Rattle.procedure.specs.Entry.{kind_of}
use Rattle.plan.specs.Plan.{begins_at, begins_of, Planned, start_at}

-- no part begins with a node outside it
pub outside : (s : ℕ) (e : Expr) (q : ℕ) → (q < s) ⊎ (s + size e ≤ q) → entry s e q ≡ apart
outside s empty q h = refl
outside s (event c) q h = rw (ne_eqb q s (⊎_elim (λ l. omega arith) (λ l. omega arith) h))
outside s (choice l r) q h =
    rw (
      outside s l q (⊎_elim inl (λ k. inr (omega arith)) h),
      outside (s + size l) r q (⊎_elim (λ k. inl (omega arith)) (λ k. inr (omega arith)) h),
    )
outside s (sequence l r) q h =
    rw (
      outside s l q (⊎_elim inl (λ k. inr (omega arith)) h),
      outside (s + size l) r q (⊎_elim (λ k. inl (omega arith)) (λ k. inr (omega arith)) h),
    )
    (same (nullable l))
  where
    same : (b : Bool) → ◌≡◌ {A = Entry (Place l ⊎ Place r)} (cond b apart apart) apart
    same true = refl
    same false = refl
outside s (repeat b lower upper) q h = rw (outside s b q (⊎_elim inl (λ k. inr (omega arith)) h))

-- node q of the part begins it, and then the plan says h of q; or it does not, and the plan says a node below the part's own
pub data Begun (plan : Links) (s : ℕ) (e : Expr) (h q : ℕ) : Type 0 where
  begun : (t : Place e) → entry s e q ≡ enters t → CanStart e t → node_of s e t ≡ q → begins_at plan q ≡ h → Begun plan s e h q
  inner : entry s e q ≡ apart → begins_at plan q < root s e → Begun plan s e h q

kind_apart : {k c x y z : ℕ} {m : Node} → m ≡ node k c x y z → kind_of m ≡ 1 → k ≡ 1
kind_apart e h = sym (ap kind_of e) ∙ h

-- where q stands: among the left child's nodes, among the right child's, or at node i itself
pub among : {P : Type 0} (m i q : ℕ) → q < suc i → (q < m → P) → (m ≤ q → q < i → P) → (q ≡ i → P) → P
among {P} m i q l low mid own = side (dec_le m q) (dec_le i q)
  where
    side : Dec (m ≤ q) → Dec (i ≤ q) → P
    side (yes a) (yes b) = own (omega arith)
    side (yes a) (no b) = mid a (omega arith)
    side (no a) b = low (omega arith)

module _ (plan : Links) (s : ℕ) (l r : Expr) (h q : ℕ) where
  left_choice : q < s + size l → Begun plan s l h q → Begun plan s (choice l r) h q
  left_choice below (begun t e c n b) = begun (inl t) (rw e) c n b
  left_choice below (inner e b) =
      inner (rw (e, outside (s + size l) r q (inl below))) (omega (arith, root-size s l))

  right_choice : s + size l ≤ q → Begun plan (s + size l) r h q → Begun plan s (choice l r) h q
  right_choice from (begun t e c n b) = begun (inr t) (rw (outside s l q (inr from), e)) c n b
  right_choice from (inner e b) =
      inner (rw (outside s l q (inr from), e)) (omega (arith, root-size (s + size l) r))

  no_right : (b : Bool) → ◌≡◌ {A = Entry (Place l ⊎ Place r)} (cond b (map_entry {A = Place r} inr apart) apart) apart
  no_right true = refl
  no_right false = refl

  left_sequence : q < s + size l → Begun plan s l h q → Begun plan s (sequence l r) h q
  left_sequence below (begun t e c n b) = begun (inl t) (rw e) c n b
  left_sequence below (inner e b) =
      inner (rw (e, outside (s + size l) r q (inl below)) (no_right (nullable l))) (omega (arith, root-size s l))

  right_sequence : (b : Bool) → nullable l ≡ b → s + size l ≤ q
      → Begun plan (s + size l) r (cond b h (root (s + size l) r)) q
      → Begun plan s (sequence l r) h q
  right_sequence b f from (inner e m) =
      inner (rw (outside s l q (inr from), e) (no_right (nullable l))) (omega (arith, root-size (s + size l) r))
  right_sequence true f from (begun t e c n m) = begun (inr t) (rw (outside s l q (inr from), e, f)) (f, c) n m
  right_sequence false f from (begun t e c n m) =
      inner (rw (outside s l q (inr from), f)) (omega (arith, root-size (s + size l) r))

in_repeat : (plan : Links) (s : ℕ) (b : Expr) (lower : ℕ) (upper : Upper) (h q : ℕ) → Begun plan s b h q → Begun plan s (repeat b lower upper) h q
in_repeat plan s b lower upper h q (begun t e c n m) = begun (t, zero) (rw e) (c, refl) n m
in_repeat plan s b lower upper h q (inner e m) = inner (rw e) (omega (arith, root-size s b))

-- what the plan says of an event node q of a part
pub begins : (g : ℕ → Node) (plan : Links) (s : ℕ) (e : Expr) (a h q : ℕ) → Stands g s e → Planned plan s e a h → kind_of (g q) ≡ 1
    → s ≤ q → q < s + size e → Begun plan s e h q
begins g plan s empty a h q st pl k from below =
    absurd (omega (arith, kind_apart st (subst (λ (i : ℕ). kind_of (g i) ≡ 1) (omega arith) k)))
begins g plan s (event c) a h q st pl k from below =
    let same : q ≡ s = omega arith in
    begun tt (rw (eq-eqb q s same)) tt (sym same) (ap (begins_at plan) same ∙ pl.1)
begins g plan s (choice l r) a h q st pl k from below =
    among (s + size l) (s + size l + size r) q (omega arith)
    (λ b. left_choice plan s l r h q b (begins g plan s l a h q st.0 pl.1 k from b))
    (λ f b. right_choice plan s l r h q f (begins g plan (s + size l) r a h q st.1 pl.2 k f b))
    (λ e. absurd (omega (arith, kind_apart st.2 (subst (λ (i : ℕ). kind_of (g i) ≡ 1) e k))))
begins g plan s (sequence l r) a h q st pl k from below =
    among (s + size l) (s + size l + size r) q (omega arith)
    (λ b. left_sequence plan s l r h q b (begins g plan s l _ h q st.0 pl.1 k from b))
    (λ f b. right_sequence plan s l r h q (nullable l) refl f (begins g plan (s + size l) r a _ q st.1 pl.2 k f b))
    (λ e. absurd (omega (arith, kind_apart st.2 (subst (λ (i : ℕ). kind_of (g i) ≡ 1) e k))))
begins g plan s (repeat b lower upper) a h q st pl k from below =
    among (s + size b) (s + size b) q (omega arith)
    (λ c. in_repeat plan s b lower upper h q (begins g plan s b _ h q st.0 pl.1 k from c))
    (λ f c. absurd (omega arith))
    (λ e. absurd (omega (arith, kind_apart st.1.1 (subst (λ (i : ℕ). kind_of (g i) ≡ 1) e k))))

-- the part begins with node q, or it does not, by a test
pub data BeginsWith (s : ℕ) (e : Expr) (q : ℕ) : Bool → Type 0 where
  does : (t : Place e) → entry s e q ≡ enters t → CanStart e t → node_of s e t ≡ q → BeginsWith s e q true
  does_not : entry s e q ≡ apart → BeginsWith s e q false

-- an event node, or one past all nodes
pub data Target (g : ℕ → Node) (n q : ℕ) : Type 0 where
  at : kind_of (g q) ≡ 1 → Target g n q
  past : n ≤ q → Target g n q

by_test : (starts : List ℕ) (plan : Links) (s : ℕ) (e : Expr) (h q : ℕ) → root s e ≤ h → start_at starts (root s e) ≡ s → s ≤ q → q ≤ root s e
    → Begun plan s e h q → BeginsWith s e q (begins_of starts plan (root s e) q)
by_test starts plan s e h q up st from below (begun t f c n b) =
    rw (
      le-leb (start_at starts (root s e)) q (omega arith),
      le-leb q (root s e) below,
      le-leb (root s e) (begins_at plan q) (omega arith),
    )
    (does t f c n)
by_test starts plan s e h q up st from below (inner f b) =
    rw (
      le-leb (start_at starts (root s e)) q (omega arith),
      le-leb q (root s e) below,
      lt-leb (root s e) (begins_at plan q) b,
    )
    (does_not f)

-- one comparison tells whether a part begins with node q
pub begins_by_test : (g : ℕ → Node) (starts : List ℕ) (plan : Links) (n s : ℕ) (e : Expr) (a h q : ℕ) → Stands g s e → Planned plan s e a h
    → start_at starts (root s e) ≡ s → root s e ≤ h → s + size e ≤ n → Target g n q → BeginsWith s e q (begins_of starts plan (root s e) q)
begins_by_test g starts plan n s e a h q st pl first up fit target = within (dec_le s q) (dec_le q (root s e)) target
  where
    within : Dec (s ≤ q) → Dec (q ≤ root s e) → Target g n q → BeginsWith s e q (begins_of starts plan (root s e) q)
    within (yes f) (yes b) (at k) =
        by_test starts plan s e h q up first f b (begins g plan s e a h q st pl k f (omega (arith, root-size s e)))
    within (yes f) (yes b) (past k) = absurd (omega (arith, root-size s e))
    within (yes f) (no b) w =
        rw (le-leb (start_at starts (root s e)) q (omega arith), lt-leb q (root s e) (omega arith))
        (does_not (outside s e q (inr (omega (arith, root-size s e)))))
    within (no f) b w =
        rw (lt-leb (start_at starts (root s e)) q (omega arith)) (does_not (outside s e q (inl (omega arith))))
