-- The event nodes of an expression as they stand in node records; a file's codes are at most 127, so a code above never continues.
use mathlib.Core.Path.{◌≡◌, refl, sym, ap, ◌∙◌, subst}
use mathlib.Core.Logic.{◌⊎◌, inl, inr}
use mathlib.Core.List.{List, [], ◌∷◌, ◌++◌, append_assoc, head-eq_of_cons-eq, tail-eq_of_cons-eq, cons≢nil}
use Prim.Native.Nat.{ℕ, suc, ◌+◌, ◌≤◌, ◌<◌}
use native.Mathlib.Decide.{dec_lt}
use native.Mathlib.Omega.{arith}
use Rattle.meaning.specs.Codes.{most_code}
use Rattle.meaning.specs.Expr.{Expr, empty, event, choice, sequence, repeat, size, Part, Bounded}
use Rattle.meaning.specs.Word.{Word, Begins}
use Rattle.meaning.specs.Reading.{Item, place, opening, closing, codes}
use Rattle.meaning.specs.Node.{Node, node, InTable, InTableTo, empty_line, event_line, choice_line, sequence_line, repeat_line, Stands}
use Rattle.meaning.specs.File.{Holds, node_at}
use Rattle.meaning.specs.Sets.{First}
use Rattle.meaning.specs.Conflict.{Conflict, ConflictAt}
use Rattle.meaning.specs.Theory.Places.{Place}
use Rattle.meaning.specs.Theory.Spots.{Spot}
use Rattle.meaning.specs.Theory.Runs.{LeadsTo, NoWay}
use Rattle.meaning.proofs.Expressions.Parts.{part_of_part, part_within}
use Rattle.meaning.proofs.Places.Directly.{IsEvent}
use Rattle.meaning.proofs.Expressions.Records.{AllName, reading_names}
use Rattle.meaning.proofs.Expressions.WordReading.{word_iff_reading}
use Rattle.meaning.proofs.File.Files.{holds_bounded}

-- an event node stands as the record of an event
pub part_stands : (g : ℕ → Node) (s : ℕ) (e : Expr) (q c : ℕ) → Stands g s e → Part s e q (event c) → g q ≡ node 1 c 0 0 0
part_stands g s empty q c st w = absurd (subst IsEvent w.1 tt)
part_stands g s (event d) q c st w = let same = w.1 in let at = w.0 in ap g at ∙ st ∙ ap (λ (b : ℕ). node 1 b 0 0 0) (cc)
part_stands g s (choice l r) q c st (inl w) = part_stands g s l q c st.0 w
part_stands g s (choice l r) q c st (inr (inl w)) = part_stands g (s + size l) r q c st.1 w
part_stands g s (choice l r) q c st (inr (inr w)) = absurd (subst IsEvent w.1 tt)
part_stands g s (sequence l r) q c st (inl w) = part_stands g s l q c st.0 w
part_stands g s (sequence l r) q c st (inr (inl w)) = part_stands g (s + size l) r q c st.1 w
part_stands g s (sequence l r) q c st (inr (inr w)) = absurd (subst IsEvent w.1 tt)
part_stands g s (repeat b lower upper) q c st (inl w) = part_stands g s b q c st.0 w
part_stands g s (repeat b lower upper) q c st (inr w) = absurd (subst IsEvent w.1 tt)

-- the record of an event is not that of another kind
not_kind : (g : ℕ → Node) (q i k c d x y z : ℕ) → g q ≡ node 1 c 0 0 0 → q ≡ i → g i ≡ node k d x y z → k ≡ 1
not_kind g q i k c d x y z a e b = cc

-- what stands as the record of an event among two children and the node above them is a child's
pair_stands : {A B C : Type 0} (g : ℕ → Node) (m i q k c x y : ℕ) → g i ≡ node k 0 x y 0 → ¬ (k ≡ 1) → q < suc i → g q ≡ node 1 c 0 0 0
    → (q < m → A) → (m ≤ q → q < i → B) → A ⊎ B ⊎ C
pair_stands {A} {B} {C} g m i q k c x y own other below w left right = side (dec_lt q m) (dec_lt q i)
  where
    side : Dec (q < m) → Dec (q < i) → A ⊎ B ⊎ C
    side (yes a) b = inl (left a)
    side (no a) (yes b) = inr (inl (right (omega arith) b))
    side (no a) (no b) = absurd (other (not_kind g q i k c 0 x y 0 w (omega arith) own))

-- what stands as the record of an event is an event node
pub stands_part : (g : ℕ → Node) (s : ℕ) (e : Expr) (q c : ℕ) → Stands g s e → s ≤ q → q < s + size e → g q ≡ node 1 c 0 0 0 → Part s e q (event c)
stands_part g s empty q c st from below w = absurd (omega (arith, not_kind g q s 0 c 0 0 0 0 w (omega arith) st))
stands_part g s (event d) q c st from below w =
    let at : q ≡ s = omega arith in
    let same = sym w ∙ ap g at ∙ st in
    (at, ap event (cc))
stands_part g s (choice l r) q c st from below w =
    pair_stands g (s + size l) (s + size l + size r) q 2 c _ _ st.2 (omega arith) (omega arith) w
    (λ a. stands_part g s l q c st.0 from a w)
    (λ a b. stands_part g (s + size l) r q c st.1 a b w)
stands_part g s (sequence l r) q c st from below w =
    pair_stands g (s + size l) (s + size l + size r) q 3 c _ _ st.2 (omega arith) (omega arith) w
    (λ a. stands_part g s l q c st.0 from a w)
    (λ a b. stands_part g (s + size l) r q c st.1 a b w)
stands_part g s (repeat b lower upper) q c st from below w =
    body (λ a. stands_part g s b q c st.0 from a w) (dec_lt q (s + size b))
  where
    body : (q < s + size b → Part s b q (event c)) → Dec (q < s + size b) → Part s (repeat b lower upper) q (event c)
    body f (yes a) = inl (f a)
    body f (no a) = absurd (omega (arith, not_kind g q (s + size b) 4 c 0 _ _ _ w (omega arith) st.1.1))

-- so where none of the records with the code leads on, no event node does
pub no_way_stands : (g : ℕ → Node) (e : Expr) (k : Spot e) (c : ℕ) → Stands g 0 e
    → ((q : ℕ) → q < size e → g q ≡ node 1 c 0 0 0 → (t : Place e) → ¬ LeadsTo e k q t) → NoWay e k c
unfolding NoWay
no_way_stands g e k c st never q w = never q (omega (arith, part_within 0 e q (event c) w)) (part_stands g 0 e q c st w)

-- ---- codes above 127

-- the code of an event in the table
line_code : {most k c x y z : ℕ} → InTableTo most (node k c x y z) → k ≡ 1 → c ≤ most
line_code empty_line h = absurd (omega arith)
line_code (event_line c l) h = l
line_code (choice_line l r) h = absurd (omega arith)
line_code (sequence_line l r) h = absurd (omega arith)
line_code (repeat_line b lower upper l w o) h = absurd (omega arith)

-- every event code of a file's expression is at most 127
pub code_small : (f : List ℕ) (e : Expr) (q c : ℕ) → Holds f e → Part 0 e q (event c) → c ≤ most_code
code_small f e q c h w =
    let lists = h.formed.lists in
    let within = part_within 0 e q (event c) w in
    let same = lists.1 in
    line_code (subst InTable (part_stands (node_at f) 0 e q c lists.0 w) (h.formed.table q (omega arith))) refl

-- each code of items that name nodes is that of an event node
code_named : (e : Expr) (x : List Item) (u v : List ℕ) (c : ℕ) → AllName 0 e x → codes x ≡ u ++ (c ∷ v) → (q : ℕ) × Part 0 e q (event c)
code_named e [] [] v c a h = absurd (cons≢nil (sym h))
code_named e [] (b ∷ u) v c a h = absurd (cons≢nil (sym h))
code_named e (place i d ∷ x) [] v c a h = (i, subst (λ (b : ℕ). Part 0 e i (event b)) (head-eq_of_cons-eq h) a.0)
code_named e (place i d ∷ x) (b ∷ u) v c a h = code_named e x u v c a.1 (tail-eq_of_cons-eq h)
code_named e (opening r ∷ x) u v c a h = code_named e x u v c a.1 h
code_named e (closing r ∷ x) u v c a h = code_named e x u v c a.1 h

-- and so is each code of a word
pub word_code : (e : Expr) → Bounded e → (u v : List ℕ) (c : ℕ) → Word e (u ++ (c ∷ v)) → (q : ℕ) × Part 0 e q (event c)
word_code e h u v c w =
    let x = (word_iff_reading 0 e h _).0 w in
    code_named e x.0 u v c (reading_names 0 e x.0 x.1) x.2

-- so is each code that begins a part
first_code : (s : ℕ) (e : Expr) (c : ℕ) → First e c → (q : ℕ) × Part s e q (event c)
first_code s empty c f = absurd f
first_code s (event d) c f = (s, (refl, ap event f))
first_code s (choice l r) c (inl f) = let t = first_code s l c f in (t.0, inl t.1)
first_code s (choice l r) c (inr f) = let t = first_code (s + size l) r c f in (t.0, inr (inl t.1))
first_code s (sequence l r) c (inl f) = let t = first_code s l c f in (t.0, inl t.1)
first_code s (sequence l r) c (inr f) = let t = first_code (s + size l) r c f.1 in (t.0, inr (inl t.1))
first_code s (repeat b lower upper) c f = let t = first_code s b c f in (t.0, inl t.1)

-- each code that a part's own node shares: it begins a child
own_code : (s : ℕ) (p : Expr) (k c : ℕ) → Conflict p k c → (q : ℕ) × Part s p q (event c)
own_code s empty k c f = absurd f
own_code s (event d) k c f = absurd f
own_code s (choice l r) k c f = first_code s (choice l r) c (inl f.1)
own_code s (sequence l r) k c (inl f) = first_code s (sequence l r) c (inl f.2)
own_code s (sequence l r) k c (inr f) = let t = first_code (s + size l) r c f.2 in (t.0, inr (inl t.1))
own_code s (repeat b lower upper) k c f = first_code s (repeat b lower upper) c f.3

-- and each shared code of a conflict
pub conflict_code : (e : Expr) (i k c : ℕ) → ConflictAt 0 e i k c → (q : ℕ) × Part 0 e q (event c)
conflict_code e i k c f =
    let inner = part_of_part 0 e i f.0 f.1 in
    let t = own_code inner.start f.0 k c f.2 in
    (t.0, inner.parts t.0 (event c) t.1)

-- a code above 127 is in no word
pub above_in_no_word : (f : List ℕ) (e : Expr) (u v : List ℕ) (c : ℕ) → Holds f e → most_code < c → ¬ Word e (u ++ (c ∷ v))
above_in_no_word f e u v c h l w =
    let t = word_code e (holds_bounded h) u v c w in
    omega (arith, code_small f e t.0 c h t.1)

-- and never continues
pub above_never_continues : (f : List ℕ) (e : Expr) (w : List ℕ) (c : ℕ) → Holds f e → most_code < c → ¬ Begins e (w ++ (c ∷ []))
above_never_continues f e w c h l b =
    above_in_no_word f e w b.0 c h l (subst (Word e) (append_assoc w (c ∷ []) b.0) b.1)
