-- Items put into a space, one after the other: where they fit they stand there as bytes, and the rest of the space is as it came.
-- Assumes nothing.
use mathlib.Core.Path.{◌≡◌, refl, sym, ap, ◌∙◌}
use mathlib.Core.Bool.{Bool, cond}
use mathlib.Core.List.{List, [], ◌∷◌, ◌++◌, append_assoc}
use Prim.Native.Nat.{ℕ, zero, suc, ◌+◌, ◌*◌, ◌/◌, ◌%◌, ◌≤◌, ◌<◌}
use native.Mathlib.Omega.{arith}
use borrow.Author.Tests.{lt-ltb, le-ltb}
use lib.ListN.{length, drop, set, length-append}
use Rattle.meaning.specs.Bytes.{in_twos}
use Rattle.numbers.specs.Put.{put_two}
use Rattle.record.specs.Put.{put_at, puts}

pub put_fits : (space : List ℕ) (at n : ℕ) → 2 * at + 1 < length space → put_two space (2 * at) n ≡ put_at space at n
unfolding put_at
put_fits space at n h = sym (ap (λ (b : Bool). cond b (put_two space (2 * at) n) space) (lt-ltb (2 * at + 1) (length space) h))

pub put_past : (space : List ℕ) (at n : ℕ) → length space ≤ 2 * at + 1 → space ≡ put_at space at n
unfolding put_at
put_past space at n h = sym (ap (λ (b : Bool). cond b (put_two space (2 * at) n) space) (le-ltb (2 * at + 1) (length space) h))

set_behind : (u : List ℕ) (a x : ℕ) (v : List ℕ) (k : ℕ) → length u ≡ k → set (u ++ (a ∷ v)) k x ≡ u ++ (x ∷ v)
set_behind [] a x v zero h = refl
set_behind [] a x v (suc k) h = absurd (omega arith)
set_behind (b ∷ u) a x v zero h = absurd (omega arith)
set_behind (b ∷ u) a x v (suc k) h = ap (λ (w : List ℕ). b ∷ w) (set_behind u a x v k (omega arith))

-- an item put behind u
put_behind : (u : List ℕ) (a b : ℕ) (v : List ℕ) (at n : ℕ) → length u ≡ 2 * at
    → put_at (u ++ (a ∷ b ∷ v)) at n ≡ (u ++ (n % 256 ∷ n / 256 % 256 ∷ [])) ++ v
put_behind u a b v at n h =
    let x = n % 256 in
    let y = n / 256 % 256 in
    let one = set_behind u a x (b ∷ v) (2 * at) h in
    let again : u ++ (x ∷ b ∷ v) ≡ (u ++ (x ∷ [])) ++ (b ∷ v) = sym (append_assoc u (x ∷ []) (b ∷ v)) in
    let two = set_behind (u ++ (x ∷ [])) b y v (2 * at + 1) (omega (arith, length-append u (x ∷ []))) in
    sym (put_fits (u ++ (a ∷ b ∷ v)) at n (omega (arith, length-append u (a ∷ b ∷ v))))
    ∙ ap (λ (s : List ℕ). set s (2 * at + 1) y) (one ∙ again) ∙ two
    ∙ append_assoc u (x ∷ []) (y ∷ v) ∙ sym (append_assoc u (x ∷ y ∷ []) v)

puts_behind : (u v : List ℕ) (at : ℕ) (w : List ℕ) → length u ≡ 2 * at → 2 * length w ≤ length v
    → puts (u ++ v) at w ≡ u ++ (in_twos w ++ drop (2 * length w) v)
puts_behind u v at [] h l = refl
puts_behind u [] at (n ∷ w) h l = absurd (omega arith)
puts_behind u (a ∷ []) at (n ∷ w) h l = absurd (omega arith)
puts_behind u (a ∷ b ∷ v) at (n ∷ w) h l =
    let u₂ = u ++ (n % 256 ∷ n / 256 % 256 ∷ []) in
    let count : 2 * length w ≤ length v = omega arith in
    let long : length u₂ ≡ 2 * (at + 1) = omega (arith, length-append u (n % 256 ∷ n / 256 % 256 ∷ [])) in
    let two : 2 * suc (length w) ≡ suc (suc (2 * length w)) = omega arith in
    ap (λ (s : List ℕ). puts s (at + 1) w) (put_behind u a b v at n h)
    ∙ puts_behind u₂ v (at + 1) w long count
    ∙ append_assoc u (n % 256 ∷ n / 256 % 256 ∷ []) (in_twos w ++ drop (2 * length w) v)
    ∙ ap (λ (k : ℕ). u ++ (in_twos (n ∷ w) ++ drop k (a ∷ b ∷ v))) (sym two)

-- from the beginning of the space
pub puts_all : (space w : List ℕ) → 2 * length w ≤ length space → puts space 0 w ≡ in_twos w ++ drop (2 * length w) space
puts_all space w l = puts_behind [] space 0 w refl l
