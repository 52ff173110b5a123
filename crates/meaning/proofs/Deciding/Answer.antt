-- Answers: a fact found together with its proof, or nothing said.
use mathlib.Core.Path.{◌≡◌, refl, sym, subst}
use mathlib.Core.Logic.{⊎_elim}
use mathlib.Core.List.{List, [], ◌∷◌}
use Prim.Native.Nat.{ℕ}
use native.Mathlib.Decide.{ℕ_discrete}
use Rattle.meaning.proofs.Deciding.Listed.{Member, Listed}

pub data Answer (A : Type 0) : Type 0 where
  found : A → Answer A
  unknown : Answer A

-- the fact was found
abbrev pub IsFound : {A : Type 0} → Answer A → Type 0
IsFound (found a) = Unit {0}
IsFound unknown = ⊥

-- a fact that was found holds
pub answered : {A : Type 0} (k : Answer A) → IsFound k → A
answered (found a) h = a
answered unknown h = absurd h

-- a decided fact, if it holds
unfoldable pub if_so : {A : Type 0} → Dec A → Answer A
if_so (yes a) = found a
if_so (no n) = unknown

-- what follows from a fact
unfoldable pub then : {A B : Type 0} → (A → B) → Answer A → Answer B
then f (found a) = found (f a)
then f unknown = unknown

-- what is found with the help of a fact
unfoldable pub next : {A B : Type 0} → Answer A → (A → Answer B) → Answer B
next (found a) f = f a
next unknown f = unknown

-- two facts
unfoldable pub both : {A B : Type 0} → Answer A → Answer B → Answer (A × B)
both (found a) (found b) = found (a, b)
both (found a) unknown = unknown
both unknown k = unknown

-- a fact where another, decided, holds
unfoldable pub provided : {A B : Type 0} → Dec A → Answer B → Answer (A → B)
provided (yes a) (found b) = found (λ h. b)
provided (yes a) unknown = unknown
provided (no n) k = found (λ h. absurd (n h))

-- two lists of numbers are equal
unfoldable pub equal : (x y : List ℕ) → Answer (x ≡ y)
unfolding then both if_so ℕ_discrete
equal [] [] = found refl
equal [] (b ∷ y) = unknown
equal (a ∷ x) [] = unknown
equal (a ∷ x) (b ∷ y) = then (λ h i. h.0 i ∷ h.1 i) (both (if_so (ℕ_discrete a b)) (equal x y))

module _ {A : Type 0} {Q : A → Type 0} where
  -- everything in the list has the property
  every_in : (x : List A) → ((a : A) → Answer (Q a)) → Answer ((a : A) → Member a x → Q a)
  unfolding then both
  every_in [] f = found (λ a h. absurd h)
  every_in (b ∷ x) f = then (λ t a. ⊎_elim (λ e. subst Q (sym e) t.0) (t.1 a)) (both (f b) (every_in x f))

  -- whatever has the one property has the other
  unfoldable pub every : {P : A → Type 0} → Listed P → ((a : A) → Answer (Q a)) → Answer ((a : A) → P a → Q a)
  unfolding then every_in
  every l f = then (λ t a h. t a (l.complete a h)) (every_in l.items f)
