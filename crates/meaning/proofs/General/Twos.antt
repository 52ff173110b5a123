-- Numbers in two bytes each: how many bytes there are, and those numbers that fit are determined by their bytes.
use mathlib.Core.Path.{◌≡◌, refl, sym}
use mathlib.Core.List.{List, [], ◌∷◌, ◌++◌, cons≢nil, head-eq_of_cons-eq, tail-eq_of_cons-eq}
use Prim.Native.Nat.{ℕ, zero, suc, ◌*◌, ◌<◌}
use native.Mathlib.Omega.{arith}
use lib.ListN.{length, get_or, take, replicate}
use Rattle.meaning.specs.Bytes.{in_twos, two_at}
use Rattle.meaning.specs.Theory.Counts.{Narrow}

-- two bytes a number
pub twos_length : (x : List ℕ) → length (in_twos x) ≡ 2 * length x
twos_length [] = refl
twos_length (n ∷ x) = omega (arith, twos_length x)

-- by place in the list
pub narrow_each : (x : List ℕ) → ((i : ℕ) → i < length x → get_or x i 0 < 65536) → Narrow x
narrow_each [] f = tt
narrow_each (n ∷ x) f = (f 0 (omega arith), narrow_each x (λ i l. f (suc i) (omega arith)))

-- so in two lists, in the first of a list, and in zeros
pub narrow_append : (x y : List ℕ) → Narrow x → Narrow y → Narrow (x ++ y)
narrow_append [] y h g = g
narrow_append (n ∷ x) y h g = (h.0, narrow_append x y h.1 g)

pub narrow_take : (m : ℕ) (x : List ℕ) → Narrow x → Narrow (take m x)
narrow_take zero x h = tt
narrow_take (suc m) [] h = tt
narrow_take (suc m) (n ∷ x) h = (h.0, narrow_take m x h.1)

pub narrow_zeros : (m : ℕ) → Narrow (replicate m 0)
narrow_zeros zero = tt
narrow_zeros (suc m) = (omega arith, narrow_zeros m)

-- numbers that fit are determined by their bytes
pub narrow_unique : (x y : List ℕ) → Narrow x → Narrow y → in_twos x ≡ in_twos y → x ≡ y
narrow_unique [] [] h g e = refl
narrow_unique [] (n ∷ y) h g e = absurd (cons≢nil (sym e))
narrow_unique (m ∷ x) [] h g e = absurd (cons≢nil e)
narrow_unique (m ∷ x) (n ∷ y) h g e =
    let low_byte = head-eq_of_cons-eq e in
    let high_byte = head-eq_of_cons-eq (tail-eq_of_cons-eq e) in
    let same : m ≡ n = omega arith in
    let rest = narrow_unique x y h.1 g.1 (tail-eq_of_cons-eq (tail-eq_of_cons-eq e)) in
    λ i. same i ∷ rest i

-- the first two bytes hold the first number
pub first_two : (n : ℕ) (x : List ℕ) → Narrow (n ∷ x) → two_at (in_twos (n ∷ x)) 0 ≡ n
first_two n x h = omega (arith, h.0)
