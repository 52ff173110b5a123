-- A run is a word exactly if some reading has its codes, and begins one exactly if it is the codes up to an event.
-- Normal form changes no language, and a part may be empty exactly if it has the empty word.
use mathlib.Core.Path.{◌≡◌, refl, sym, ap, ap₂, subst, ◌∙◌}
use mathlib.Core.Logic.Iff
use mathlib.Core.Logic.{◌↔◌, ◌⊎◌, inl, inr, ⊎_elim}
use mathlib.Core.Bool.{Bool, true, false, So, false≢true, and-eq-true_iff}
use mathlib.Core.List.{List, [], ◌∷◌, ◌++◌, append-eq-nil_iff}
use Prim.Native.Nat.{ℕ, zero, suc, ◌+◌, ◌≤◌, max}
use native.Mathlib.Omega.{arith}
use native.Mathlib.Nat.{le_refl, le_of_suc-le-suc, le-max_left, le-max_right}
use lib.ListN.{length, take, drop, take-append-drop}
use lib.Seq.{take-append_seam}
use Rattle.meaning.specs.Expr.{Expr, empty, event, choice, sequence, repeat, size, Bounded, Upper, upto, Within}
use Rattle.meaning.specs.Lists.{Nil, One, nil, one, Or, left, right, Cat, cat, Power, none, more, Times, times}
use Rattle.meaning.specs.Word.{Word, Begins}
use Rattle.meaning.specs.Normal.{nullable, normal, is_zero, low}
use Rattle.meaning.specs.Reading.{Item, place, opening, closing, Reading, codes, up_to, Block, block}
use Rattle.meaning.proofs.General.Facts.{so_or, iff_sum, within_le, within_max, or_iff, some_power}
use Rattle.meaning.proofs.Expressions.Items.{codes-append, codes_block, codes-up_to}

-- empty lists of the set can be added
power_pad : {A : Type 0} {P : List A → Type 0} → P [] → (n : ℕ) {j : ℕ} {w : List A} → Power P j w → j ≤ n → Power P n w
power_pad p zero none h = none
power_pad p zero (more j u v a t) h = absurd (omega arith)
power_pad p (suc n) none h = more n [] [] p (power_pad p n none (omega arith))
power_pad p (suc n) (more j u v a t) h = more n u v a (power_pad p n t (le_of_suc-le-suc h))

-- where the set has the empty list, the lower bound does not matter
times_low : {A : Type 0} {P : List A → Type 0} (b : Bool) → (So b → P []) → (lower : ℕ) (upper : Upper) → Within lower upper
    → {w : List A} → Times P (low b lower) upper w ↔ Times P lower upper w
times_low {A} {P} true p lower upper h = (pad, loosen)
  where
    pad : {w : List A} → Times P 0 upper w → Times P lower upper w
    pad (times j _ k t) = times (max lower j) (le-max_left lower j) (within_max lower j upper h k) (power_pad (p refl) (max lower j) t (le-max_right lower j))

    loosen : {w : List A} → Times P lower upper w → Times P 0 upper w
    loosen (times j _ k t) = times j (omega arith) k t
times_low false p lower upper h = Iff.rfl

-- the empty list in a sequence
cat_nil : {A : Type 0} {P Q : List A → Type 0} → Cat P Q [] ↔ (P [] × Q [])
cat_nil {A} {P} {Q} = (λ t. both t refl, λ p. cat [] [] p.0 p.1)
  where
    both : {x : List A} → Cat P Q x → x ≡ [] → P [] × Q []
    both (cat u v p q) e = let k = (append-eq-nil_iff {p = u} {q = v}).0 e in (subst P k.0 p, subst Q k.1 q)

-- the empty list in a repeat
times_nil : {A : Type 0} {P : List A → Type 0} (lower : ℕ) (upper : Upper) → Within lower upper
    → Times P lower upper [] ↔ (So (is_zero lower) ⊎ P [])
times_nil zero upper h = (λ _. inl refl, λ _. times 0 (le_refl 0) h none)
times_nil {A} {P} (suc n) upper h =
    (λ t. inr (has t refl), ⊎_elim (λ e. absurd (false≢true e)) (λ p. times (suc n) (le_refl (suc n)) h (power_pad p (suc n) none (omega arith))))
  where
    has : {x : List A} → Times P (suc n) upper x → x ≡ [] → P []
    has (times j k m none) e = absurd (omega arith)
    has (times j k m (more i u v p t)) e = subst P ((append-eq-nil_iff {p = u} {q = v}).0 e).0 p

-- a part may be empty exactly if it has the empty word
pub nullable_iff_empty_word : (e : Expr) → Bounded e → So (nullable e) ↔ Word e []
nullable_iff_empty_word empty h = (λ _. nil, λ _. refl)
nullable_iff_empty_word (event c) h = (λ e. absurd (false≢true e), λ t. elim t [ ])
nullable_iff_empty_word (choice l r) h =
    let a = nullable_iff_empty_word l h.0 in
    let b = nullable_iff_empty_word r h.1 in
    Iff.trans (so_or (nullable l) (nullable r)) (Iff.trans (iff_sum a b) (Iff.symm or_iff))
nullable_iff_empty_word (sequence l r) h =
    let a = nullable_iff_empty_word l h.0 in
    let b = nullable_iff_empty_word r h.1 in
    Iff.trans (and-eq-true_iff (nullable l) (nullable r)) (Iff.trans (Iff.and a b) (Iff.symm cat_nil))
nullable_iff_empty_word (repeat b lower upper) h =
    let a = nullable_iff_empty_word b h.0 in
    Iff.trans (so_or (is_zero lower) (nullable b)) (Iff.trans (iff_sum Iff.rfl a) (Iff.symm (times_nil lower upper h.1)))

-- every part has a word
pub some_word : (e : Expr) → Bounded e → (w : List ℕ) × Word e w
some_word empty h = ([], nil)
some_word (event c) h = (c ∷ [], one)
some_word (choice l r) h = let a = some_word l h.0 in (a.0, left a.1)
some_word (sequence l r) h =
    let a = some_word l h.0 in
    let b = some_word r h.1 in
    (a.0 ++ b.0, cat a.0 b.0 a.1 b.1)
some_word (repeat b lower upper) h = let w = some_word b h.0 in let a = some_power w.0 w.1 lower in (a.0, times lower (le_refl lower) h.1 a.1)

-- the relation holds of lists one after the other, where it holds of each
abbrev Joins : {A B : Type 0} → (List A → List B → Type 0) → Type 0
Joins {A} {B} R = R [] [] × ((x y : List A) (v w : List B) → R x v → R y w → R (x ++ y) (v ++ w))

-- every list of the first set is related to one of the second
abbrev Turns : {A B : Type 0} → (List A → List B → Type 0) → (List A → Type 0) → (List B → Type 0) → Type 0
Turns {A} {B} R P Q = (x : List A) → P x → (w : List B) × Q w × R x w

-- every list of each set is related to one of the other
abbrev Corresponds : {A B : Type 0} → (List A → List B → Type 0) → (List A → Type 0) → (List B → Type 0) → Type 0
Corresponds R P Q = Turns R P Q × Turns (λ w x. R x w) Q P

-- so for unions, sequences and repeats
module _ {A B : Type 0} {R : List A → List B → Type 0} {P : List A → Type 0} {Q : List B → Type 0} (f : Turns R P Q) where
  or_turns : {P' : List A → Type 0} {Q' : List B → Type 0} → Turns R P' Q' → Turns R (Or P P') (Or Q Q')
  or_turns g x (left p) = let a = f x p in (a.0, left a.1, a.2)
  or_turns g x (right p) = let a = g x p in (a.0, right a.1, a.2)

  cat_turns : Joins R → {P' : List A → Type 0} {Q' : List B → Type 0} → Turns R P' Q' → Turns R (Cat P P') (Cat Q Q')
  cat_turns joins g x (cat u v p q) =
      let a = f u p in
      let b = g v q in
      (a.0 ++ b.0, cat a.0 b.0 a.1 b.1, joins.1 u v a.0 b.0 a.2 b.2)

  power_turns : Joins R → (j : ℕ) → Turns R (Power P j) (Power Q j)
  power_turns joins j x none = ([], none, joins.0)
  power_turns joins j x (more i u v p t) =
      let a = f u p in
      let b = power_turns joins i v t in
      (a.0 ++ b.0, more i a.0 b.0 a.1 b.1, joins.1 u v a.0 b.0 a.2 b.2)

  times_turns : Joins R → {lower : ℕ} {upper : Upper} → Turns R (Times P lower upper) (Times Q lower upper)
  times_turns joins x (times j h k t) = let a = power_turns joins j x t in (a.0, times j h k a.1, a.2)

-- the relation read the other way
joins_back : {A B : Type 0} {R : List A → List B → Type 0} → Joins R → Joins (λ w x. R x w)
joins_back joins = (joins.0, λ v w x y p q. joins.1 x y v w p q)

-- unions, sequences and repeats of sets that agree agree, and so does a set that holds the same lists
module _ {A B : Type 0} {R : List A → List B → Type 0} {P : List A → Type 0} {Q : List B → Type 0} (f : Corresponds R P Q) where
  or_agrees : {P' : List A → Type 0} {Q' : List B → Type 0} → Corresponds R P' Q' → Corresponds R (Or P P') (Or Q Q')
  or_agrees g = (or_turns f.0 g.0, or_turns f.1 g.1)

  cat_agrees : Joins R → {P' : List A → Type 0} {Q' : List B → Type 0} → Corresponds R P' Q' → Corresponds R (Cat P P') (Cat Q Q')
  cat_agrees joins g = (cat_turns f.0 joins g.0, cat_turns f.1 (joins_back joins) g.1)

  times_agrees : Joins R → {lower : ℕ} {upper : Upper} → Corresponds R (Times P lower upper) (Times Q lower upper)
  times_agrees joins = (times_turns f.0 joins, times_turns f.1 (joins_back joins))

  agrees_iff : {Q' : List B → Type 0} → ((w : List B) → Q w ↔ Q' w) → Corresponds R P Q'
  agrees_iff g = (λ x p. let a = f.0 x p in (a.0, (g a.0).0 a.1, a.2), λ w q. f.1 w ((g w).1 q))

-- equal lists one after the other are equal
same_joins : {A : Type 0} → Joins {A = A} {B = A} (λ v w. v ≡ w)
same_joins = (refl, λ x y v w p q. ap₂ ◌++◌ p q)

-- a repeat of a larger set holds more
times_map : {A : Type 0} {P Q : List A → Type 0} → ((w : List A) → P w → Q w) → {lower : ℕ} {upper : Upper} (w : List A) → Times P lower upper w → Times Q lower upper w
times_map {Q = Q} f {lower} {upper} w t =
    let a = times_turns (λ x p. (x, f x p, refl)) same_joins w t in
    subst (Times Q lower upper) (sym a.2) a.1

-- the lists of the set that are not empty
abbrev Solid : {A : Type 0} → (List A → Type 0) → List A → Type 0
Solid P w = P w × (1 ≤ length w)

-- the empty ones of j lists can be dropped
power_solid : {A : Type 0} {P : List A → Type 0} {j : ℕ} {w : List A} → Power P j w → Times (Solid P) 0 (upto j) w
power_solid none = times 0 (le_refl 0) (le_refl 0) none
power_solid {P = P} (more j [] v p t) = dropped (power_solid t)
  where
    dropped : Times (Solid P) 0 (upto j) v → Times (Solid P) 0 (upto (suc j)) v
    dropped (times k m n r) = times k m (omega arith) r
power_solid {A} {P} (more j (a ∷ u) v p t) = kept (power_solid t)
  where
    kept : Times (Solid P) 0 (upto j) v → Times (Solid P) 0 (upto (suc j)) (a ∷ (u ++ v))
    kept (times k m n r) = times (suc k) (omega arith) (omega arith) (more k (a ∷ u) v (p, omega arith) r)

-- a repeat needs no empty lists: the set has them only where the lower bound does not matter
times_shed : {A : Type 0} {P : List A → Type 0} (b : Bool) → (P [] → So b) → (lower : ℕ) (upper : Upper) {w : List A}
    → Times P lower upper w → Times (Solid P) (low b lower) upper w
times_shed {P = P} true f lower upper {w} (times j h k t) = fewer (power_solid t)
  where
    fewer : Times (Solid P) 0 (upto j) w → Times (Solid P) 0 upper w
    fewer (times i m n r) = times i m (within_le _ _ upper n k) r
times_shed {A} {P} false f lower upper {w} t = times_map solid w t
  where
    solid : (x : List A) → P x → Solid P x
    solid [] p = absurd (false≢true (f p))
    solid (a ∷ x) p = (p, omega arith)

-- a repeat of the non-empty lists with the normal-form lower bound is the repeat
times_solid : {A : Type 0} {P : List A → Type 0} (b : Bool) → So b ↔ P [] → (lower : ℕ) (upper : Upper) → Within lower upper
    → (w : List A) → Times (Solid P) (low b lower) upper w ↔ Times P lower upper w
times_solid b f lower upper h w =
    (λ t. (times_low b f.0 lower upper h).0 (times_map (λ x s. s.0) w t), times_shed b f.1 lower upper)

-- the items have the codes
abbrev Coded : List Item → List ℕ → Type 0
Coded x w = codes x ≡ w

-- items one after the other have the codes one after the other
coded_joins : Joins Coded
coded_joins = (refl, λ x y v w p q. codes-append x y ∙ ap₂ ◌++◌ p q)

-- blocks have the codes of the words that are not empty
block_agrees : {P : List Item → Type 0} {Q : List ℕ → Type 0} (r : ℕ) → Corresponds Coded P Q → Corresponds Coded (Block P r) (Solid Q)
block_agrees {P} {Q} r f = (word, reading)
  where
    word : Turns Coded (Block P r) (Solid Q)
    word y (block x k p) =
        let a = f.0 x p in
        (a.0, (a.1, subst (λ w. 1 ≤ length w) a.2 k), codes_block r x ∙ a.2)

    reading : Turns (λ w x. Coded x w) (Solid Q) (Block P r)
    reading w q =
        let a = f.1 w q.0 in
        (opening r ∷ (a.0 ++ (closing r ∷ [])), block a.0 (subst (λ v. 1 ≤ length v) (sym a.2) q.1) a.1, codes_block r a.0 ∙ a.2)

-- readings have the codes of words, and words have readings
readings_words : (s : ℕ) (e : Expr) → Bounded e → Corresponds Coded (Reading s e) (Word e)
readings_words s empty h = (λ x p. elim p as (λ y _. (w : List ℕ) × Nil w × Coded y w) [ nil ↦ ([], nil, refl) ], λ w p. elim p as (λ v _. (x : List Item) × Nil x × Coded x v) [ nil ↦ ([], nil, refl) ])
readings_words s (event c) h = (λ x p. elim p as (λ y _. (w : List ℕ) × One c w × Coded y w) [ one ↦ (c ∷ [], one, refl) ], λ w p. elim p as (λ v _. (x : List Item) × One (place s c) x × Coded x v) [ one ↦ (place s c ∷ [], one, refl) ])
readings_words s (choice l r) h = or_agrees (readings_words s l h.0) (readings_words (s + size l) r h.1)
readings_words s (sequence l r) h = cat_agrees (readings_words s l h.0) coded_joins (readings_words (s + size l) r h.1)
readings_words s (repeat b lower upper) h =
    agrees_iff (times_agrees (block_agrees (s + size b) (readings_words s b h.0)) coded_joins)
    (times_solid (nullable b) (nullable_iff_empty_word b h.0) lower upper h.1)

-- a run is a word exactly if some reading has its codes
pub word_iff_reading : (s : ℕ) (e : Expr) → Bounded e → (w : List ℕ) → Word e w ↔ ((x : List Item) × Reading s e x × (codes x ≡ w))
word_iff_reading s e h w =
    let f = readings_words s e h in
    (f.1 w, λ r. let a = f.0 r.0 r.1 in subst (Word e) (sym a.2 ∙ r.2) a.1)

-- a run begins a word exactly if some reading has its codes up to its last event
pub begins_iff_reading : (s : ℕ) (e : Expr) → Bounded e → (u : List ℕ) → Begins e u ↔ ((x : List Item) × Reading s e x × (codes (up_to x (length u)) ≡ u))
begins_iff_reading s e h u = (to, from)
  where
    to : Begins e u → (x : List Item) × Reading s e x × (codes (up_to x (length u)) ≡ u)
    to b =
        let r = (word_iff_reading s e h (u ++ b.0)).0 b.1 in
        (r.0, r.1, codes-up_to r.0 (length u) ∙ ap (take (length u)) r.2 ∙ take-append_seam u b.0)

    from : (x : List Item) × Reading s e x × (codes (up_to x (length u)) ≡ u) → Begins e u
    from r =
        let w = codes r.0 in
        let n = length u in
        let e₁ : take n w ≡ u = sym (codes-up_to r.0 n) ∙ r.2 in
        (drop n w, (word_iff_reading s e h (u ++ drop n w)).1 (r.0, r.1, sym (take-append-drop n w) ∙ ap (λ v. v ++ drop n w) e₁))

-- a part and its normal form have the same words
normal_agrees : (e : Expr) → Bounded e → Corresponds (λ v w. v ≡ w) (Word (normal e)) (Word e)
normal_agrees empty h = (λ w p. (w, p, refl), λ w p. (w, p, refl))
normal_agrees (event c) h = (λ w p. (w, p, refl), λ w p. (w, p, refl))
normal_agrees (choice l r) h = or_agrees (normal_agrees l h.0) (normal_agrees r h.1)
normal_agrees (sequence l r) h = cat_agrees (normal_agrees l h.0) same_joins (normal_agrees r h.1)
normal_agrees (repeat b lower upper) h =
    agrees_iff (times_agrees (normal_agrees b h.0) same_joins)
    (λ w. times_low (nullable b) (nullable_iff_empty_word b h.0).0 lower upper h.1)

-- normal form changes no language
pub normal_same_words : (e : Expr) → Bounded e → (w : List ℕ) → Word (normal e) w ↔ Word e w
normal_same_words e h w =
    let f = normal_agrees e h in
    (λ p. let a = f.0 w p in subst (Word e) (sym a.2) a.1, λ q. let a = f.1 w q in subst (Word (normal e)) a.2 a.1)
