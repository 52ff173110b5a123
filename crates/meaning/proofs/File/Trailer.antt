-- The trailer's letters, as bytes and as one number. Assumes nothing.
use mathlib.Core.Path.{◌≡◌, ap, sym, ◌∙◌}
use mathlib.Core.List.{List, [], ◌∷◌}
use Prim.Native.Nat.{ℕ, suc, ◌+◌, ◌-◌, ◌*◌, ◌/◌, ◌%◌, ◌≤◌, ◌<◌}
use native.Mathlib.Omega.{arith}
use lib.ListN.{length, get_or, take, drop}
use lib.Seq.{drop-cons}
use Rattle.meaning.specs.Bytes.{byte_at, four_at}
use Rattle.meaning.specs.File.{letters}

next : (f : List ℕ) (k l : ℕ) → l ≡ suc k → l ≤ length f → drop k f ≡ get_or f k 0 ∷ drop l f
next f k l e h = drop-cons f k 0 (omega arith) ∙ ap (λ (n : ℕ). get_or f k 0 ∷ drop n f) (sym e)

-- four bytes from k on, one by one
four : (f : List ℕ) (k : ℕ) → k + 3 < length f
    → take 4 (drop k f) ≡ byte_at f k ∷ byte_at f (k + 1) ∷ byte_at f (k + 2) ∷ byte_at f (k + 2 + 1) ∷ []
four f k h =
    rw (
      next f k (k + 1) (omega arith) (omega arith),
      next f (k + 1) (k + 2) (omega arith) (omega arith),
      next f (k + 2) (k + 2 + 1) (omega arith) (omega arith),
      next f (k + 2 + 1) (k + 4) (omega arith) (omega arith),
    )

-- S, E, Q and P
abbrev seqp : List ℕ
seqp = 83 ∷ 69 ∷ 81 ∷ 80 ∷ []

pub letters_number : (f : List ℕ) → 12 ≤ length f → letters f ≡ seqp → four_at f (length f - 12) ≡ 1347503443
letters_number f h e =
    let k = length f - 12 in
    let each : byte_at f k ∷ byte_at f (k + 1) ∷ byte_at f (k + 2) ∷ byte_at f (k + 2 + 1) ∷ [] ≡ seqp = sym (four f k (omega arith)) ∙ e in
    let s : byte_at f k ≡ 83 = cc in
    let t : byte_at f (k + 1) ≡ 69 = cc in
    let u : byte_at f (k + 2) ≡ 81 = cc in
    let v : byte_at f (k + 2 + 1) ≡ 80 = cc in
    omega arith

-- the lowest byte of a number, and what stands above it
apart : (a q n : ℕ) → a < 256 → a + 256 * q ≡ n → (a ≡ n % 256) × (q ≡ n / 256)
apart a q n h e = (omega arith, omega arith)

pub number_letters : (f : List ℕ) → 12 ≤ length f → ((i : ℕ) → byte_at f i < 256) → four_at f (length f - 12) ≡ 1347503443 → letters f ≡ seqp
number_letters f h small e =
    let k = length f - 12 in
    let c = byte_at f (k + 2) in
    let d = byte_at f (k + 2 + 1) in
    let one = apart (byte_at f k) (byte_at f (k + 1) + 256 * (c + 256 * d)) 1347503443 (small k) (omega arith) in
    let two = apart (byte_at f (k + 1)) (c + 256 * d) 5263685 (small (k + 1)) one.1 in
    let three = apart c d 20561 (small (k + 2)) two.1 in
    four f k (omega arith) ∙ cc (one.0, two.0, three.0, three.1)
