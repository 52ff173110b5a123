-- The counters are those of a place exactly if each repeat's counter fits. Assumes nothing.
use mathlib.Core.Path.{◌≡◌, sym, ap, ap₂, subst, ◌∙◌}
use mathlib.Core.Logic.Iff
use mathlib.Core.Logic.{◌↔◌, ◌⊎◌, inl, inr, ⊎_elim}
use mathlib.Core.Bool.{Bool, true, false}
use mathlib.Core.List.{List}
use Prim.Native.Nat.{ℕ, zero, suc, ◌+◌, ◌-◌, ◌≤◌, ◌<◌}
use native.Mathlib.Omega.{arith}
use lib.ListN.{length, get_or, get_or-eq_default, drop}
use Rattle.std.specs.Bool.{MatchBool}
use Rattle.std.specs.List.{AllWithin, HoldsAt}
use Rattle.std.proofs.lemmas.List.{get_or-drop}
use Rattle.meaning.specs.Expr.{Expr, empty, event, choice, sequence, repeat, Upper, Within, size, root}
use Rattle.meaning.specs.Node.{Stands, repeats_below}
use Rattle.meaning.specs.Normal.{nullable, low}
use Rattle.meaning.specs.State.{stop}
use Rattle.meaning.specs.Theory.Places.{Place, node_of, Sound}
use Rattle.meaning.specs.Theory.Counts.{Clear, Held, most, repeats}
use Rattle.meaning.proofs.Expressions.Parts.{root-size}
use Rattle.meaning.proofs.Places.Marks.{node_from, node_below}
use Rattle.meaning.proofs.File.Ranks.{repeats_past}
use Rattle.meaning.proofs.State.States.{stop_within, most_within, most-stop}
use Rattle.procedure.specs.Entry.{Nodes, held, kind_of}
use Rattle.procedure.specs.Listing.{TellsNulls, TellsStarts}
use Rattle.procedure.specs.Tests.{Decides}
use Rattle.procedure.proofs.Empties.{null_of_part}
use Rattle.procedure.proofs.Orders.{start_of_part}
use Rattle.states.specs.Standing.{Fits, apart, around, FitsAt, ClearFrom, cap_of}
use Rattle.states.proofs.StateBytes.{below_or_from}

-- ---- what holds of a row of numbers

-- P holds of m numbers from s on
abbrev On : (ℕ → Type 0) → ℕ → ℕ → Type 0
On P s m = (y : ℕ) → s ≤ y → y < s + m → P y

module _ (P : ℕ → Type 0) (s : ℕ) where
  on_none : On P s 0
  on_none y a b = absurd (omega arith)

  on_one : P s → On P s 1
  on_one h y a b = let same : s ≡ y = omega arith in subst P same h

  on_body : (m : ℕ) → On P s (m + 1) → On P s m
  on_body m f y a b = f y a (omega arith)

  on_last : (m : ℕ) → On P s (m + 1) → P (s + m)
  on_last m f = f (s + m) (omega arith) (omega arith)

  on_left : (m n : ℕ) → On P s (m + n) → On P s m
  on_left m n f y a b = f y a (omega arith)

  on_right : (m n : ℕ) → On P s (m + n) → On P (s + m) n
  on_right m n f y a b = f y (omega arith) (omega arith)

  on_more : (m : ℕ) → On P s m → P (s + m) → On P s (m + 1)
  on_more m f h y a b = ⊎_elim (λ l. f y a l) (λ l. let same : s + m ≡ y = omega arith in subst P same h) (below_or_from y (s + m))

  on_both : (m n : ℕ) → On P s m → On P (s + m) n → On P s (m + n)
  on_both m n f g y a b = ⊎_elim (λ l. f y a l) (λ l. g y l (omega arith)) (below_or_from y (s + m))

  -- of a left and a right part, and of the node above them
  on_all : (m n : ℕ) → On P s m → On P (s + m) n → P (s + m + n) → On P s (m + n + 1)
  on_all m n f g h = on_more (m + n) (on_both m n f g) (let same : s + m + n ≡ s + (m + n) = omega arith in subst P same h)

-- ---- the test of a counter

module _ {s m y p c : ℕ} where
  -- outside the repeat the counter is 0
  fits_apart : (p < s) ⊎ (y ≤ p) → Fits s m y p c ↔ (c ≡ 0)
  fits_apart o = (λ f. back f o, apart o)
    where
      back : Fits s m y p c → (p < s) ⊎ (y ≤ p) → c ≡ 0
      back (apart o e) w = e
      back (around a b h k) (inl w) = absurd (omega arith)
      back (around a b h k) (inr w) = absurd (omega arith)

  -- inside it is from 1 to the most
  fits_around : s ≤ p → p < y → Fits s m y p c ↔ ((1 ≤ c) × (c ≤ m))
  fits_around a b = (back, λ w. around a b w.0 w.1)
    where
      back : Fits s m y p c → (1 ≤ c) × (c ≤ m)
      back (apart (inl w) e) = absurd (omega arith)
      back (apart (inr w) e) = absurd (omega arith)
      back (around a b h k) = (h, k)

-- ---- counters that are 0

-- the counters from rank k on are 0, or one of them is not
pub clear_tested : (counts : List ℕ) (k : ℕ) (b : Bool) → MatchBool b (AllWithin (λ x. x ≡ 0) (drop k counts) 0 (length (drop k counts)))
    ((j : ℕ) × (j < length (drop k counts)) × HoldsAt (λ x. ¬ (x ≡ 0)) (drop k counts) j)
    → Decides (ClearFrom counts k) b
clear_tested counts k true h = λ j l.
    let at : k + (j - k) ≡ j = omega arith in
    subst (λ (i : ℕ). get_or counts i 0 ≡ 0) at
    (sym (get_or-drop k counts (j - k) 0)
    ∙ ⊎_elim (λ m. h (j - k) 0 (omega arith) m) (λ m. get_or-eq_default (drop k counts) 0 m) (below_or_from (j - k) (length (drop k counts))))
clear_tested counts k false h = λ z. h.2 0 (get_or-drop k counts h.0 0 ∙ z (k + h.0) (omega arith))

-- ---- a counter and the blocks begun

-- a number from 1 to the most counts the blocks begun
counter_blocks : (lower c : ℕ) (upper : Upper) → 1 ≤ c → c ≤ most lower upper → (j : ℕ) × Within (suc j) upper × (c ≡ stop lower upper (suc j))
counter_blocks lower zero upper h k = absurd (omega arith)
counter_blocks lower (suc j) upper h k = (j, most_within lower (suc j) upper k, sym (most-stop lower (suc j) upper k))

-- ---- a part's counters

module _ (nodes : Nodes) (starts : List ℕ) (nulls : List Bool) (counts : List ℕ) (n p : ℕ) (begun : TellsStarts (held nodes) starts n) (empties : TellsNulls (held nodes) nulls n) where
  -- where node y is a repeat, its counter fits
  abbrev Right : ℕ → Type 0
  Right y = kind_of (held nodes y) ≡ 4 → FitsAt nodes starts nulls y p (get_or counts (repeats_below (held nodes) y) 0)

  right_other : (y k : ℕ) → kind_of (held nodes y) ≡ k → ¬ (k ≡ 4) → Right y
  right_other y k e h z = absurd (h (sym e ∙ z))

  -- at a repeat, in the words of its part
  right_repeat : (s k : ℕ) (b : Expr) (lower : ℕ) (upper : Upper) → Stands (held nodes) s (repeat b lower upper) → s + (size b + 1) ≤ n
      → k ≡ repeats_below (held nodes) s
      → Right (s + size b) ↔ Fits s (most (low (nullable b) lower) upper) (s + size b) p (get_or counts (k + repeats b) 0)
  right_repeat s k b lower upper st fit e =
      let y = s + size b in
      let kind = ap kind_of st.1.1 in
      let at : root s b ≡ y - 1 = omega (arith, root-size s b, root-size 0 b) in
      let begins = start_of_part (held nodes) starts n s (repeat b lower upper) begun st (omega arith) in
      let null : get_or nulls (y - 1) false ≡ nullable b =
      ap (λ (i : ℕ). get_or nulls i false) (sym at) ∙ null_of_part (held nodes) nulls n s b empties st.0 (omega (arith, root-size s b)) in
      let cap : cap_of (held nodes y) (get_or nulls (y - 1) false) ≡ most (low (nullable b) lower) upper =
      ap₂ cap_of st.1.1 null ∙ ap (most (low (nullable b) lower)) (sym st.1.2) in
      let rank : repeats_below (held nodes) y ≡ k + repeats b = omega (arith, repeats_past (held nodes) s b st.0) in
      rw (begins, cap, rank) (λ f. f kind, λ h z. h)

  abbrev Zero : ℕ → Type 0
  Zero j = get_or counts j 0 ≡ 0

  -- ---- outside a part: the tests pass exactly if its counters are 0

  abbrev Outside : ℕ → ℕ → Expr → Type 0
  Outside s k e = s + size e ≤ n → k ≡ repeats_below (held nodes) s → (p < s) ⊎ (s + size e ≤ p) → On Right s (size e) ↔ Clear counts k (repeats e)

  outside_pair : (s k : ℕ) (l r : Expr) (i : ℕ) → Stands (held nodes) s l → kind_of (held nodes (s + size l + size r)) ≡ i → ¬ (i ≡ 4)
      → Outside s k l → Outside (s + size l) (k + repeats l) r
      → s + (size l + size r + 1) ≤ n → k ≡ repeats_below (held nodes) s → (p < s) ⊎ (s + (size l + size r + 1) ≤ p)
      → On Right s (size l + size r + 1) ↔ Clear counts k (repeats l + repeats r)
  outside_pair s k l r i st kind other left right fit e o =
      let past = repeats_past (held nodes) s l st in
      let f = left (omega arith) e (⊎_elim inl (λ h. inr (omega arith)) o) in
      let g = right (omega arith) (omega arith) (⊎_elim (λ h. inl (omega arith)) (λ h. inr (omega arith)) o) in (
        λ w.
            let v = on_body Right s (size l + size r) w in
            on_both Zero k (repeats l) (repeats r) (f.0 (on_left Right s (size l) (size r) v)) (g.0 (on_right Right s (size l) (size r) v)),
        λ z.
            on_all Right s (size l) (size r) (f.1 (on_left Zero k (repeats l) (repeats r) z)) (g.1 (on_right Zero k (repeats l) (repeats r) z))
            (right_other (s + size l + size r) i kind other),
      )

  outside_iff : (s k : ℕ) (e : Expr) → Stands (held nodes) s e → Outside s k e
  outside_iff s k empty st = λ fit e o. (λ w. on_none Zero k, λ z. on_one Right s (right_other s 0 (ap kind_of st) (λ f. omega arith)))
  outside_iff s k (event c) st = λ fit e o. (λ w. on_none Zero k, λ z. on_one Right s (right_other s 1 (ap kind_of st) (λ f. omega arith)))
  outside_iff s k (choice l r) st =
      outside_pair s k l r 2 st.0 (ap kind_of st.2) (λ f. omega arith) (outside_iff s k l st.0) (outside_iff (s + size l) (k + repeats l) r st.1)
  outside_iff s k (sequence l r) st =
      outside_pair s k l r 3 st.0 (ap kind_of st.2) (λ f. omega arith) (outside_iff s k l st.0) (outside_iff (s + size l) (k + repeats l) r st.1)
  outside_iff s k (repeat b lower upper) st = λ fit e o.
      let body = outside_iff s k b st.0 (omega arith) e (⊎_elim inl (λ h. inr (omega arith)) o) in
      let test = Iff.trans (right_repeat s k b lower upper st fit e) (fits_apart (⊎_elim inl (λ h. inr (omega arith)) o)) in (
        λ w. on_more Zero k (repeats b) (body.0 (on_body Right s (size b) w)) (test.0 (on_last Right s (size b) w)),
        λ z. on_more Right s (size b) (body.1 (on_body Zero k (repeats b) z)) (test.1 (on_last Zero k (repeats b) z)),
      )

  -- ---- inside a part: where the tests pass, the counters are those of a place

  abbrev PlaceAt : ℕ → ℕ → Expr → Type 0
  PlaceAt s k e = (q : Place e) × Sound e q × (node_of s e q ≡ p) × Held counts k e q

  abbrev Inside : ℕ → ℕ → Expr → Type 0
  Inside s k e = s + size e ≤ n → k ≡ repeats_below (held nodes) s → s ≤ p → p < s + size e → On Right s (size e) → PlaceAt s k e

  not_event : (y i : ℕ) → kind_of (held nodes y) ≡ i → ¬ (i ≡ 1) → kind_of (held nodes p) ≡ 1 → ¬ (p ≡ y)
  not_event y i e h f g = h (sym e ∙ ap (λ (j : ℕ). kind_of (held nodes j)) (sym g) ∙ f)

  -- in the left part, or in the right part
  abbrev Either : ℕ → ℕ → Expr → Expr → Type 0
  Either s k l r =
      ((q : Place l) × Sound l q × (node_of s l q ≡ p) × (Held counts k l q × Clear counts (k + repeats l) (repeats r)))
      ⊎ ((q : Place r) × Sound r q × (node_of (s + size l) r q ≡ p) × (Clear counts k (repeats l) × Held counts (k + repeats l) r q))

  inside_pair : (s k : ℕ) (l r : Expr) (i : ℕ) → Stands (held nodes) s l → Stands (held nodes) (s + size l) r
      → kind_of (held nodes (s + size l + size r)) ≡ i → ¬ (i ≡ 1) → kind_of (held nodes p) ≡ 1
      → Inside s k l → Inside (s + size l) (k + repeats l) r
      → s + (size l + size r + 1) ≤ n → k ≡ repeats_below (held nodes) s → s ≤ p → p < s + (size l + size r + 1) → On Right s (size l + size r + 1)
      → Either s k l r
  inside_pair s k l r i a b kind other f left right fit e lo hi w =
      let past = repeats_past (held nodes) s l a in
      let apart = not_event (s + size l + size r) i kind other f in
      let v = on_body Right s (size l + size r) w in
      let u = on_left Right s (size l) (size r) v in
      let x = on_right Right s (size l) (size r) v in
      ⊎_elim
      (λ h.
      let t = left (omega arith) e lo h u in
      inl (t.0, t.1, t.2, (t.3, (outside_iff (s + size l) (k + repeats l) r b (omega arith) (omega arith) (inl h)).0 x)))
      (λ h.
      let t = right (omega arith) (omega arith) h (omega arith) x in
      inr (t.0, t.1, t.2, ((outside_iff s k l a (omega arith) e (inr h)).0 u, t.3)))
      (below_or_from p (s + size l))

  inside_repeat : (s k : ℕ) (b : Expr) (lower : ℕ) (upper : Upper) → Stands (held nodes) s (repeat b lower upper)
      → s + (size b + 1) ≤ n → k ≡ repeats_below (held nodes) s → s ≤ p → p < s + size b → Right (s + size b) → PlaceAt s k b → PlaceAt s k (repeat b lower upper)
  inside_repeat s k b lower upper st fit e lo hi w t =
      let c = get_or counts (k + repeats b) 0 in
      let range = (fits_around lo hi).0 ((right_repeat s k b lower upper st fit e).0 w) in
      let count = counter_blocks (low (nullable b) lower) c upper range.0 range.1 in
      ((t.0, count.0), (t.1, count.1), t.2, (t.3, count.2))

  pub inside : (s k : ℕ) (e : Expr) → Stands (held nodes) s e → kind_of (held nodes p) ≡ 1 → Inside s k e
  inside s k empty st f = λ fit e lo hi w. absurd (not_event s 0 (ap kind_of st) (λ g. omega arith) f (omega arith))
  inside s k (event c) st f = λ fit e lo hi w. (tt, tt, omega arith, tt)
  inside s k (choice l r) st f = λ fit e lo hi w.
      ⊎_elim (λ t. (inl t.0, t.1, t.2, t.3)) (λ t. (inr t.0, t.1, t.2, t.3))
      (inside_pair s k l r 2 st.0 st.1 (ap kind_of st.2) (λ g. omega arith) f (inside s k l st.0 f) (inside (s + size l) (k + repeats l) r st.1 f) fit e lo hi w)
  inside s k (sequence l r) st f = λ fit e lo hi w.
      ⊎_elim (λ t. (inl t.0, t.1, t.2, t.3)) (λ t. (inr t.0, t.1, t.2, t.3))
      (inside_pair s k l r 3 st.0 st.1 (ap kind_of st.2) (λ g. omega arith) f (inside s k l st.0 f) (inside (s + size l) (k + repeats l) r st.1 f) fit e lo hi w)
  inside s k (repeat b lower upper) st f = λ fit e lo hi w.
      let apart = not_event (s + size b) 4 (ap kind_of st.1.1) (λ g. omega arith) f in
      inside_repeat s k b lower upper st fit e lo (omega arith) (on_last Right s (size b) w)
      (inside s k b st.0 f (omega arith) e lo (omega arith) (on_body Right s (size b) w))

  -- ---- and the counters of a place pass the tests

  abbrev Passes : ℕ → ℕ → Expr → Type 0
  Passes s k e = s + size e ≤ n → k ≡ repeats_below (held nodes) s → On Right s (size e)

  passes_left : (s k : ℕ) (l r : Expr) (i : ℕ) → Stands (held nodes) s l → Stands (held nodes) (s + size l) r
      → kind_of (held nodes (s + size l + size r)) ≡ i → ¬ (i ≡ 4) → p < s + size l → Clear counts (k + repeats l) (repeats r) → Passes s k l
      → s + (size l + size r + 1) ≤ n → k ≡ repeats_below (held nodes) s → On Right s (size l + size r + 1)
  passes_left s k l r i a b kind other h z left fit e =
      let past = repeats_past (held nodes) s l a in
      on_all Right s (size l) (size r) (left (omega arith) e) ((outside_iff (s + size l) (k + repeats l) r b (omega arith) (omega arith) (inl h)).1 z)
      (right_other (s + size l + size r) i kind other)

  passes_right : (s k : ℕ) (l r : Expr) (i : ℕ) → Stands (held nodes) s l
      → kind_of (held nodes (s + size l + size r)) ≡ i → ¬ (i ≡ 4) → s + size l ≤ p → Clear counts k (repeats l) → Passes (s + size l) (k + repeats l) r
      → s + (size l + size r + 1) ≤ n → k ≡ repeats_below (held nodes) s → On Right s (size l + size r + 1)
  passes_right s k l r i a kind other h z right fit e =
      let past = repeats_past (held nodes) s l a in
      on_all Right s (size l) (size r) ((outside_iff s k l a (omega arith) e (inr h)).1 z) (right (omega arith) (omega arith))
      (right_other (s + size l + size r) i kind other)

  pub passes : (s k : ℕ) (e : Expr) → Stands (held nodes) s e → (q : Place e) → Sound e q → p ≡ node_of s e q → Held counts k e q → Passes s k e
  passes s k empty st q sound here w = absurd sound
  passes s k (event c) st q sound here w = λ fit e. on_one Right s (right_other s 1 (ap kind_of st) (λ f. omega arith))
  passes s k (choice l r) st (inl q) sound here w =
      passes_left s k l r 2 st.0 st.1 (ap kind_of st.2) (λ f. omega arith) (omega (arith, node_below s l q)) w.1
      (passes s k l st.0 q sound here w.0)
  passes s k (choice l r) st (inr q) sound here w =
      passes_right s k l r 2 st.0 (ap kind_of st.2) (λ f. omega arith) (omega (arith, node_from (s + size l) r q)) w.0
      (passes (s + size l) (k + repeats l) r st.1 q sound here w.1)
  passes s k (sequence l r) st (inl q) sound here w =
      passes_left s k l r 3 st.0 st.1 (ap kind_of st.2) (λ f. omega arith) (omega (arith, node_below s l q)) w.1
      (passes s k l st.0 q sound here w.0)
  passes s k (sequence l r) st (inr q) sound here w =
      passes_right s k l r 3 st.0 (ap kind_of st.2) (λ f. omega arith) (omega (arith, node_from (s + size l) r q)) w.0
      (passes (s + size l) (k + repeats l) r st.1 q sound here w.1)
  passes s k (repeat b lower upper) st q sound here w = λ fit e.
      let within = stop_within (low (nullable b) lower) q.1 upper sound.1 in
      let c = get_or counts (k + repeats b) 0 in
      let count : c ≡ stop (low (nullable b) lower) upper (suc q.1) = w.1 in
      on_more Right s (size b) (passes s k b st.0 q.0 sound.0 here w.0 (omega arith) e)
      ((right_repeat s k b lower upper st fit e).1
      (around (omega (arith, node_from s b q.0)) (omega (arith, node_below s b q.0)) (omega arith) (omega arith)))
