-- First, as worked out from the children, is first as worded: the codes that begin a word.
use mathlib.Core.Path.{◌≡◌, refl, sym, subst}
use mathlib.Core.Logic.Iff
use mathlib.Core.Logic.{◌↔◌, ◌⊎◌, inl, inr, ⊎_elim}
use mathlib.Core.List.{List, [], ◌∷◌, ◌++◌, cons≢nil}
use Prim.Native.Nat.{ℕ, suc, pred, max}
use native.Mathlib.Omega.{arith}
use Rattle.meaning.specs.Expr.{Expr, empty, event, choice, sequence, repeat, Bounded, Upper, Within}
use Rattle.meaning.specs.Lists.{One, one, Or, left, right, Cat, cat, Power, none, more, Times, times}
use Rattle.meaning.specs.Sets.{First, FirstWorded}
use Rattle.meaning.proofs.General.Facts.{iff_sum, within_le, within_max, or_iff, some_power}
use Rattle.meaning.proofs.Expressions.WordReading.{nullable_iff_empty_word, some_word}

-- a list of the set begins with the element
abbrev HeadOf : {A : Type 0} → (List A → Type 0) → A → Type 0
HeadOf {A} P c = (w : List A) × P (c ∷ w)

-- what begins the list of one element
heads_one : {A : Type 0} {c d : A} → HeadOf (One d) c ↔ (c ≡ d)
heads_one {A} {c} {d} = (λ h. from h.1 refl, λ e. ([], subst (λ a. One d (a ∷ [])) (sym e) one))
  where
    from : {w x : List A} → One d x → x ≡ c ∷ w → c ≡ d
    from one e = cc

-- what begins a list of a union
heads_or : {A : Type 0} {P Q : List A → Type 0} {c : A} → HeadOf (Or P Q) c ↔ (HeadOf P c ⊎ HeadOf Q c)
heads_or {P = P} {Q = Q} {c = c} = (
  λ h. ⊎_elim {C = HeadOf P c ⊎ HeadOf Q c} (λ p. inl (h.0, p)) (λ q. inr (h.0, q)) (or_iff.0 h.1),
  ⊎_elim (λ h. (h.0, left h.1)) (λ h. (h.0, right h.1)),
)

-- what begins a list of a sequence, where the second set has a list
heads_cat : {A : Type 0} {P Q : List A → Type 0} {c : A} → ((v : List A) × Q v) → HeadOf (Cat P Q) c ↔ (HeadOf P c ⊎ (P [] × HeadOf Q c))
heads_cat {A} {P} {Q} {c} some = (λ h. from h.1 refl, ⊎_elim in_left in_right)
  where
    from : {w x : List A} → Cat P Q x → x ≡ c ∷ w → HeadOf P c ⊎ (P [] × HeadOf Q c)
    from {w} (cat [] v p q) e = inr (p, (w, subst Q e q))
    from (cat (a ∷ u) v p q) e = inl (u, subst (λ b. P (b ∷ u)) (cc) p)

    in_left : HeadOf P c → HeadOf (Cat P Q) c
    in_left h = (h.0 ++ some.0, cat (c ∷ h.0) some.0 h.1 some.1)

    in_right : P [] × HeadOf Q c → HeadOf (Cat P Q) c
    in_right h = (h.1.0, cat [] (c ∷ h.1.0) h.0 h.1.1)

-- what begins a list of a repeat
heads_times : {A : Type 0} {P : List A → Type 0} {c : A} (lower : ℕ) (upper : Upper) → Within lower upper → Within 1 upper → HeadOf (Times P lower upper) c ↔ HeadOf P c
heads_times {A} {P} {c} lower upper h k = (λ t. from t.1 refl, to)
  where
    first : {j : ℕ} {w x : List A} → Power P j x → x ≡ c ∷ w → HeadOf P c
    first none e = absurd (cons≢nil (sym e))
    first (more j [] v p t) e = first t e
    first (more j (a ∷ u) v p t) e = (u, subst (λ b. P (b ∷ u)) (cc) p)

    from : {w x : List A} → Times P lower upper x → x ≡ c ∷ w → HeadOf P c
    from (times j _ _ t) e = first t e

    to : HeadOf P c → HeadOf (Times P lower upper) c
    to p =
        let r : (v : List A) × Power P (pred lower) v = some_power (c ∷ p.0) p.1 (pred lower) in
        let within = within_le (suc (pred lower)) (max 1 lower) upper (omega arith) (within_max 1 lower upper k h) in
        (p.0 ++ r.0, times (suc (pred lower)) (omega arith) within (more (pred lower) (c ∷ p.0) r.0 p.1 r.1))

-- a code is in first exactly if it begins a word
pub first_iff_worded : (e : Expr) → Bounded e → (c : ℕ) → First e c ↔ FirstWorded e c
unfolding FirstWorded
first_iff_worded empty h c = (λ f. absurd f, λ t. elim t.1 [ ])
first_iff_worded (event d) h c = Iff.symm heads_one
first_iff_worded (choice l r) h c =
    let a = first_iff_worded l h.0 c in
    let b = first_iff_worded r h.1 c in
    Iff.trans (iff_sum a b) (Iff.symm heads_or)
first_iff_worded (sequence l r) h c =
    let n = nullable_iff_empty_word l h.0 in
    let a = first_iff_worded l h.0 c in
    let b = first_iff_worded r h.1 c in
    Iff.trans (iff_sum a (Iff.and n b)) (Iff.symm (heads_cat (some_word r h.1)))
first_iff_worded (repeat b lower upper) h c =
    let a = first_iff_worded b h.0 c in
    Iff.trans a (Iff.symm (heads_times lower upper h.1 h.2))
