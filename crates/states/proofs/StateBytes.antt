-- Numbers in two bytes each: bytes and numbers determine each other. And a place and the number that stands for it. Assumes nothing.
use mathlib.Core.Path.{◌≡◌, refl, sym, ap, ◌∙◌, subst}
use mathlib.Core.List.{List, [], ◌∷◌, head-eq_of_cons-eq, tail-eq_of_cons-eq}
use mathlib.Core.Logic.{◌⊎◌, inl, inr}
use Prim.Native.Nat.{ℕ, zero, suc, ◌+◌, ◌-◌, ◌*◌, ◌/◌, ◌%◌, ◌≤◌, ◌<◌}
use native.Mathlib.Decide.{dec_lt}
use native.Mathlib.Omega.{arith}
use lib.ListN.{length, get_or}
use Rattle.std.specs.Prelude.{Option, Some, None}
use Rattle.std.specs.Option.{SomeIff}
use Rattle.meaning.specs.Bytes.{byte_at, two_at, in_twos}
use Rattle.meaning.specs.Theory.Counts.{Narrow}
use Rattle.meaning.proofs.General.Twos.{narrow_each, narrow_unique}
use Rattle.states.specs.StateBytes.{Decoded, place_of}

-- a number is below another, or it is not
pub below_or_from : (k m : ℕ) → (k < m) ⊎ (m ≤ k)
below_or_from k m = decide (dec_lt k m)
  where
    decide : Dec (k < m) → (k < m) ⊎ (m ≤ k)
    decide (yes h) = inl h
    decide (no h) = inr (omega arith)

-- ---- numbers one after the other

-- the two bytes from i on hold the number
abbrev pub Two : List ℕ → ℕ → ℕ → Type 0
Two f i x = (byte_at f i ≡ x % 256) × (byte_at f (i + 1) ≡ x / 256 % 256)

-- from the beginning on, the bytes hold the first m of the numbers
abbrev pub Filled : List ℕ → List ℕ → ℕ → Type 0
Filled f numbers m = (k : ℕ) → k < m → Two f (2 * k) (get_or numbers k 0)

pub two_of : (f : List ℕ) (i x : ℕ) → ((k : ℕ) → byte_at f k < 256) → x ≡ two_at f i → Two f i x
two_of f i x small e =
    let a = small i in
    let b = small (i + 1) in
    (omega arith, omega arith)

-- bytes that hold all the numbers, and nothing more, are determined
pub filled_twos : (f numbers : List ℕ) → length f ≡ 2 * length numbers → Filled f numbers (length numbers) → f ≡ in_twos numbers
filled_twos [] [] h w = refl
filled_twos (a ∷ f) [] h w = absurd (omega arith)
filled_twos [] (x ∷ xs) h w = absurd (omega arith)
filled_twos (a ∷ []) (x ∷ xs) h w = absurd (omega arith)
filled_twos (a ∷ b ∷ f) (x ∷ xs) h w =
    let here : Two (a ∷ b ∷ f) 0 x = w 0 (omega arith) in
    let first : a ≡ x % 256 = here.0 in
    let second : b ≡ x / 256 % 256 = here.1 in
    let rest = filled_twos f xs (omega arith) (λ k l. further k (w (suc k) (omega arith))) in
    λ i. first i ∷ second i ∷ rest i
  where
    further : (k : ℕ) → Two (a ∷ b ∷ f) (2 * suc k) (get_or xs k 0) → Two f (2 * k) (get_or xs k 0)
    further k t =
        let even : 2 * suc k ≡ suc (suc (2 * k)) = omega arith in
        let odd : 2 * suc k + 1 ≡ suc (suc (2 * k + 1)) = omega arith in
        (ap (byte_at (a ∷ b ∷ f)) (sym even) ∙ t.0, ap (byte_at (a ∷ b ∷ f)) (sym odd) ∙ t.1)

-- ---- bytes and numbers determine each other

-- what is decoded is what was encoded
pub decoded_unique : {bytes : List ℕ} {node : ℕ} {counts : List ℕ} → Decoded bytes node counts
    → (m : ℕ) (d : List ℕ) → Narrow (m ∷ d) → bytes ≡ in_twos (m ∷ d) → (node ≡ m) × (counts ≡ d)
decoded_unique {bytes} {node} {counts} w m d h e =
    let same = narrow_unique (node ∷ counts) (m ∷ d) w.narrow h (sym w.written ∙ e) in
    (head-eq_of_cons-eq same, tail-eq_of_cons-eq same)

-- ---- what is read from the bytes

-- the first m counters are those that the bytes hold behind the node
abbrev pub Read : List ℕ → List ℕ → ℕ → Type 0
Read bytes counts m = (k : ℕ) → k < m → get_or counts k 0 ≡ two_at bytes (2 * k + 2)

module _ (bytes counts : List ℕ) (small : (k : ℕ) → byte_at bytes k < 256) (long : length counts ≡ 32) (w : Read bytes counts 32) where
  read_filled : (node : ℕ) → node ≡ two_at bytes 0 → Filled bytes (node ∷ counts) 33
  read_filled node e zero h = two_of bytes 0 node small e
  read_filled node e (suc k) h =
      let here : 2 * k + 2 ≡ 2 * suc k = omega arith in
      two_of bytes (2 * suc k) (get_or counts k 0) small (w k (omega arith) ∙ ap (two_at bytes) here)

  pub read_decoded : length bytes ≡ 66 → (node : ℕ) → node ≡ two_at bytes 0 → Decoded bytes node counts
  read_decoded h node e = record {
    written = filled_twos bytes (node ∷ counts) (omega arith) (subst (Filled bytes (node ∷ counts)) (omega arith) (read_filled node e));
    narrow = (
      omega (arith, small 0, small 1),
      narrow_each counts (λ k l. omega (arith, w k (omega arith), small (2 * k + 2), small (2 * k + 2 + 1))),
    );
    long = long;
  }

-- ---- a place

-- a number is the place of what it leaves with 1 taken from it, or of none where it is 0
pub place_back : (a : Option ℕ) (x : ℕ) → SomeIff a (1 ≤ x) (x - 1) → place_of a ≡ x
place_back None x h = omega arith
place_back (Some p) x h = omega arith
