-- The items in a record's bytes, and the bytes of items. Assumes nothing.
use mathlib.Core.Path.{◌≡◌, refl, sym, ap, ◌∙◌}
use mathlib.Core.List.{List, [], ◌∷◌}
use Prim.Native.Nat.{ℕ, zero, suc, ◌+◌, ◌*◌, ◌/◌, ◌%◌, ◌≤◌, ◌<◌}
use native.Mathlib.Omega.{arith}
use lib.ListN.{length, drop, get_or}
use native.Mathlib.Numerals.{add-one}
use Rattle.std.proofs.lemmas.Option.{slice_get_past}
use Rattle.std.specs.Prelude.{Option, Some, None, nat_eq}
use Rattle.std.specs.List.{slice_get}
use Rattle.std.specs.Option.{option_eq}
use Rattle.procedure.specs.Tests.{Decides}
use mathlib.Core.Bool.{Bool, true, false, false≢true, not, not-not}
use borrow.Author.Tests.{eq-eqb, eqb-true}
use Rattle.meaning.specs.Bytes.{in_twos, two_at}
use Rattle.meaning.specs.Theory.Counts.{Narrow}
use Rattle.record.specs.Walk.{items_in, Inside, Names, Outside}

pub items_length : (b : List ℕ) → length (items_in b) ≡ length b / 2
items_length [] = refl
items_length (x ∷ []) = refl
items_length (x ∷ y ∷ b) = omega (arith, items_length b)

-- item k stands in the bytes 2 k and 2 k + 1
pub item_in : (b : List ℕ) (k : ℕ) → 2 * k + 1 < length b → slice_get (items_in b) k ≡ Some (two_at b (2 * k))
item_in [] k h = absurd (omega arith)
item_in (x ∷ []) k h = absurd (omega arith)
item_in (x ∷ y ∷ b) zero h = refl
item_in (x ∷ y ∷ b) (suc k) h =
    let low : 2 * suc k ≡ suc (suc (2 * k)) = omega arith in
    let high : 2 * suc k + 1 ≡ suc (suc (2 * k + 1)) = omega arith in
    item_in b k (omega arith) ∙ sym (λ i. Some (get_or (x ∷ y ∷ b) (low i) 0 + 256 * get_or (x ∷ y ∷ b) (high i) 0))

pub item_past : (b : List ℕ) (k : ℕ) → length b ≤ 2 * k + 1 → slice_get (items_in b) k ≡ None
item_past b k h = slice_get_past (items_in b) k (omega (arith, items_length b))

-- ---- from items to bytes and back

pub items_of_twos : (w : List ℕ) → Narrow w → items_in (in_twos w) ≡ w
items_of_twos [] h = refl
items_of_twos (n ∷ w) h =
    let e = items_of_twos w h.1 in
    let a : n % 256 + 256 * (n / 256 % 256) ≡ n = omega (arith, h.0) in
    λ i. a i ∷ e i

pub twos_of_items : (b : List ℕ) → length b % 2 ≡ 0 → ((i : ℕ) → get_or b i 0 < 256) → in_twos (items_in b) ≡ b
twos_of_items [] h small = refl
twos_of_items (x ∷ []) h small = absurd (omega arith)
twos_of_items (x ∷ y ∷ b) h small =
    let even : suc (suc (length b)) % 2 ≡ 0 = h in
    let e = twos_of_items b (omega arith) (λ i. small (suc (suc i))) in
    let p = small 0 in
    let q = small 1 in
    let c : (x + 256 * y) % 256 ≡ x = omega arith in
    let above : (x + 256 * y) / 256 ≡ y = omega arith in
    let small_y : y % 256 ≡ y = omega arith in
    let d : (x + 256 * y) / 256 % 256 ≡ y = ap (λ (n : ℕ). n % 256) above ∙ small_y in
    λ i. c i ∷ d i ∷ e i

-- ---- the item at a place

pub item_there : (w : List ℕ) (at n : ℕ) → slice_get w at ≡ Some n → (at < length w) × (drop at w ≡ n ∷ drop (at + 1) w)
item_there [] at n e = let z : ◌≡◌ {A = ℕ} 0 1 = cc in absurd (omega arith)
item_there (a ∷ w) zero n e = let z : a ≡ n = cc in (omega arith, λ i. z i ∷ w)
item_there (a ∷ w) (suc at) n e =
    let k = item_there w at n e in
    (omega (arith, k.0), k.1 ∙ ap (λ (j : ℕ). n ∷ drop j w) (add-one at) ∙ ap (λ (j : ℕ). n ∷ drop j (a ∷ w)) (sym (add-one (suc at))))

-- the item that the numbers from a place on begin with
pub begins_with : (w : List ℕ) (at n : ℕ) (u : List ℕ) → drop at w ≡ n ∷ u → slice_get w at ≡ Some n
begins_with [] zero n u e = let z : ◌≡◌ {A = ℕ} 0 1 = cc in absurd (omega arith)
begins_with [] (suc at) n u e = let z : ◌≡◌ {A = ℕ} 0 1 = cc in absurd (omega arith)
begins_with (a ∷ w) zero n u e = cc
begins_with (a ∷ w) (suc at) n u e = begins_with w at n u e

-- an item that names a node of a part
pub item_named : (w : List ℕ) (at s i : ℕ) (item : Option ℕ) → item ≡ slice_get w at → Names s i item
    → (n : ℕ) × Inside s i n × (item ≡ Some n) × (at < length w) × (drop at w ≡ n ∷ drop (at + 1) w)
item_named w at s i (Some n) e h = let there = item_there w at n (sym e) in (n, h, refl, there.0, there.1)
item_named w at s i None e h = absurd h

pub outside_at : (w : List ℕ) (at s i : ℕ) (item : Option ℕ) → item ≡ slice_get w at → ¬ Names s i item → Outside s i (drop at w)
outside_at [] zero s i item e h = tt
outside_at [] (suc at) s i item e h = tt
outside_at (a ∷ w) zero s i item e h = λ p. h (rw e p)
outside_at (a ∷ w) (suc at) s i item e h = outside_at w at s i item e h

-- the test whether an item is this one
pub same_item : (item : Option ℕ) (n : ℕ) (same : Bool) → same ≡ option_eq nat_eq item (Some n) → Decides (item ≡ Some n) same
same_item (Some m) n true e = ap Some (eqb-true m n (sym e))
same_item (Some m) n false e = λ q. let h : m ≡ n = cc in false≢true (e ∙ eq-eqb m n h)
same_item None n true e = absurd (false≢true (sym e))
same_item None n false e = λ q. let z : ◌≡◌ {A = ℕ} 0 1 = cc in omega arith

-- and whether the item at a place is
pub item_read : (w : List ℕ) (at n : ℕ) (item : Option ℕ) (same : Bool) → item ≡ slice_get w at → same ≡ option_eq nat_eq item (Some n)
    → Decides (slice_get w at ≡ Some n) same
item_read w at n item same e told = rw (← e) (same_item item n same told)

pub item_other : (w : List ℕ) (at n : ℕ) (item : Option ℕ) (other : Bool) → item ≡ slice_get w at → other ≡ not (option_eq nat_eq item (Some n))
    → Decides (slice_get w at ≡ Some n) (not other)
item_other w at n item other e told = item_read w at n item (not other) e (ap not told ∙ not-not (option_eq nat_eq item (Some n)))
