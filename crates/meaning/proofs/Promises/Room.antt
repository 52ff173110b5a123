-- A record takes at most 130 bytes for each event of its run: an event, and an opening and a closing of each of 32 repeats.
use Rattle.std.specs.Prelude.{Err}
use mathlib.Core.Path.{◌≡◌, ap, ◌∙◌}
use mathlib.Core.List.{List, [], ◌∷◌, ◌++◌, map}
use Prim.Native.Nat.{ℕ, ◌+◌, ◌*◌, ◌≤◌, ◌<◌}
use native.Mathlib.Nat.{le_trans, mul-add, mul-le-mul_right}
use native.Mathlib.Omega.{arith}
use lib.ListN.{length, length-append, length-map}
use Rattle.meaning.specs.declared.Refusal.TheVariants.{Room}
use Rattle.meaning.specs.Expr.{Expr, empty, event, choice, sequence, repeat, size}
use Rattle.meaning.specs.File.{Holds}
use Rattle.meaning.specs.Lists.{nil, one, left, right, cat, Power, none, more, times}
use Rattle.meaning.specs.Promises.{Writes}
use Rattle.meaning.specs.Reading.{Item, opening, closing, Reading, codes, Block, block}
use Rattle.meaning.specs.Record.{item_number, record_bytes}
use Rattle.meaning.specs.Theory.Counts.{repeats}
use Rattle.meaning.proofs.Expressions.Items.{events_append}
use Rattle.meaning.proofs.File.Refusals.{barred_number}
use Rattle.meaning.proofs.State.StateBytes.{few_counters}
use Rattle.meaning.proofs.General.Twos.{twos_length}

-- how many items a part with k repeats has at most for n events
abbrev items_for : ℕ → ℕ → ℕ
items_for k n = (2 * k + 1) * n

more_repeats : (k m n : ℕ) → k ≤ m → items_for k n ≤ items_for m n
more_repeats k m n h = mul-le-mul_right {m = 2 * k + 1} {n = 2 * m + 1} n (omega arith)

-- a block has two items more, and an event
one_block : (k n : ℕ) → 1 ≤ n → items_for k n + 2 ≤ items_for (k + 1) n
one_block k n h = omega arith

-- items of two lists
both_lists : (k : ℕ) (x y : List Item) → length x ≤ items_for k (length (codes x)) → length y ≤ items_for k (length (codes y))
    → length (x ++ y) ≤ items_for k (length (codes (x ++ y)))
both_lists k x y h g =
    let all : items_for k (length (codes (x ++ y))) ≡ items_for k (length (codes x)) + items_for k (length (codes y)) =
    ap (items_for k) (events_append x y) ∙ mul-add (2 * k + 1) (length (codes x)) (length (codes y)) in
    omega (arith, length-append x y)

blocks_within : (P : List Item → Type 0) (r k j : ℕ) → ((x : List Item) → P x → length x ≤ items_for k (length (codes x)))
    → (x : List Item) → Power (Block P r) j x → length x ≤ items_for (k + 1) (length (codes x))
blocks_within P r k j h x none = omega arith
blocks_within P r k j h x (more i u v (block y some p) q) =
    let z = opening r ∷ (y ++ (closing r ∷ [])) in
    let long : length z ≡ length y + 2 = omega (arith, length-append y (closing r ∷ [])) in
    let same : length (codes z) ≡ length (codes y) = omega (arith, events_append y (closing r ∷ [])) in
    let here : length z ≤ items_for (k + 1) (length (codes y)) = omega (arith, h y p, one_block k (length (codes y)) some) in
    let first : length z ≤ items_for (k + 1) (length (codes z)) = rw same here in
    both_lists (k + 1) z v first (blocks_within P r k i h v q)

-- a reading has at most so many items
pub reading_within : (s : ℕ) (e : Expr) (x : List Item) → Reading s e x → length x ≤ items_for (repeats e) (length (codes x))
reading_within s empty x nil = omega arith
reading_within s (event c) x one = omega arith
reading_within s (choice l r) x (left a) =
    le_trans (reading_within s l x a) (more_repeats (repeats l) (repeats l + repeats r) (length (codes x)) (omega arith))
reading_within s (choice l r) x (right a) =
    le_trans (reading_within (s + size l) r x a) (more_repeats (repeats r) (repeats l + repeats r) (length (codes x)) (omega arith))
reading_within s (sequence l r) x (cat u v a b) =
    both_lists (repeats l + repeats r) u v
    (le_trans (reading_within s l u a) (more_repeats (repeats l) (repeats l + repeats r) (length (codes u)) (omega arith)))
    (le_trans (reading_within (s + size l) r v b) (more_repeats (repeats r) (repeats l + repeats r) (length (codes v)) (omega arith)))
reading_within s (repeat b lower upper) x (times j lo up p) =
    blocks_within (Reading s b) (s + size b) (repeats b) j (reading_within s b) x p

-- the record of a file's reading
pub record_within : (f : List ℕ) (e : Expr) → Holds f e → (x : List Item) → Reading 0 e x → length (record_bytes x) ≤ 130 * length (codes x)
record_within f e h x r =
    let items = le_trans (reading_within 0 e x r) (more_repeats (repeats e) 32 (length (codes x)) (few_counters h)) in
    omega (arith, twos_length (map item_number x), length-map x item_number)

-- so a space with 130 bytes for each event is never too short
pub room_enough : (f run space after : List ℕ) → Writes f run space (Err Room) after → length space < 130 * length run
room_enough f run space after (Writes.no_room e x a l r c short) = omega (arith, record_within f e a.holds x r, ap length c)
room_enough f run space after (Writes.refused r b) = absurd (omega (arith, barred_number f Room b))
