-- Laws on the codes of items, and on the items up to an event.
use mathlib.Core.Path.{◌≡◌, refl, sym, ap, ◌∙◌}
use mathlib.Core.List.{List, [], ◌∷◌, ◌++◌, append-nil}
use Prim.Native.Nat.{ℕ, zero, suc, ◌+◌, ◌≤◌, min}
use native.Mathlib.Omega.{arith}
use lib.ListN.{length, take, length-append, length-take}
use lib.Seq.{take-nil}
use Rattle.meaning.specs.Reading.{Item, place, opening, closing, codes, up_to}

-- the codes of two lists of items, one after the other
pub codes-append : (x y : List Item) → codes (x ++ y) ≡ codes x ++ codes y
codes-append [] y = refl
codes-append (place i c ∷ x) y = ap {B = List ℕ} (λ w. c ∷ w) (codes-append x y)
codes-append (opening r ∷ x) y = codes-append x y
codes-append (closing r ∷ x) y = codes-append x y

-- two lists hold as many events as both
pub events_append : (x y : List Item) → length (codes (x ++ y)) ≡ length (codes x) + length (codes y)
events_append x y = ap {B = ℕ} length (codes-append x y) ∙ length-append (codes x) (codes y)

-- two lists without an event make one without an event
pub no_event_append : (x y : List Item) → codes x ≡ [] → codes y ≡ [] → codes (x ++ y) ≡ []
no_event_append x y a b = codes-append x y ∙ ap (λ (t : List ℕ). t ++ codes y) a ∙ b

-- items with an event have a code
pub codes_event : (u : List Item) (i c : ℕ) (v : List Item) → 1 ≤ length (codes (u ++ (place i c ∷ v)))
codes_event u i c v = omega (arith, events_append u (place i c ∷ v))

-- the codes of a block are those of its body
pub codes_block : (r : ℕ) (x : List Item) → codes (opening r ∷ (x ++ (closing r ∷ []))) ≡ codes x
codes_block r x = codes-append x (closing r ∷ []) ∙ append-nil (codes x)

-- the codes up to the n-th event are the first n codes
pub codes-up_to : (x : List Item) (n : ℕ) → codes (up_to x n) ≡ take n (codes x)
codes-up_to [] n = sym (take-nil n)
codes-up_to (place i c ∷ x) zero = refl
codes-up_to (place i c ∷ x) (suc n) = ap {B = List ℕ} (λ w. c ∷ w) (codes-up_to x n)
codes-up_to (opening r ∷ x) zero = refl
codes-up_to (opening r ∷ x) (suc n) = codes-up_to x (suc n)
codes-up_to (closing r ∷ x) zero = refl
codes-up_to (closing r ∷ x) (suc n) = codes-up_to x (suc n)

-- the items up to the n-th event hold n events, or all if there are fewer
pub events_up_to : (x : List Item) (n : ℕ) → length (codes (up_to x n)) ≡ min n (length (codes x))
events_up_to x n = ap {B = ℕ} length (codes-up_to x n) ∙ length-take n (codes x)

-- no item stands up to the 0-th event
pub up_to_zero : (x : List Item) → up_to x zero ≡ []
up_to_zero [] = refl
up_to_zero (place i c ∷ x) = refl
up_to_zero (opening r ∷ x) = refl
up_to_zero (closing r ∷ x) = refl

-- up to an event that comes after them, all items stand
pub up_to-append : (x y : List Item) (m n : ℕ) → n ≡ length (codes x) + suc m → up_to (x ++ y) n ≡ x ++ up_to y (suc m)
up_to-append [] y m n h = ap (up_to y) (omega arith)
up_to-append (place i c ∷ x) y m zero h = absurd (omega arith)
up_to-append (place i c ∷ x) y m (suc n) h = ap {B = List Item} (λ z. place i c ∷ z) (up_to-append x y m n (omega arith))
up_to-append (opening r ∷ x) y m zero h = absurd (omega arith)
up_to-append (opening r ∷ x) y m (suc n) h = ap {B = List Item} (λ z. opening r ∷ z) (up_to-append x y m (suc n) h)
up_to-append (closing r ∷ x) y m zero h = absurd (omega arith)
up_to-append (closing r ∷ x) y m (suc n) h = ap {B = List Item} (λ z. closing r ∷ z) (up_to-append x y m (suc n) h)

-- up to the next event after some items
pub up_to_event : (u : List Item) (i c : ℕ) (v : List Item) → up_to (u ++ (place i c ∷ v)) (suc (length (codes u))) ≡ u ++ (place i c ∷ [])
up_to_event u i c v =
    up_to-append u (place i c ∷ v) 0 (suc (length (codes u))) (omega arith) ∙ ap {B = List Item} (λ t. u ++ (place i c ∷ t)) (up_to_zero v)

-- a cut after marks and an event cuts what follows the event
pub up_to_marks : (m y : List Item) (i c n : ℕ) → codes m ≡ [] → up_to (m ++ (place i c ∷ y)) (suc n) ≡ m ++ (place i c ∷ up_to y n)
up_to_marks m y i c n h =
    let e : length (codes m) ≡ 0 = ap {B = ℕ} length h in
    up_to-append m (place i c ∷ y) n (suc n) (omega arith)

-- a cut after the first event
pub up_to_first : (m y : List Item) (i c : ℕ) → codes m ≡ [] → up_to (m ++ (place i c ∷ y)) 1 ≡ m ++ (place i c ∷ [])
up_to_first m y i c h = up_to_marks m y i c 0 h ∙ ap {B = List Item} (λ t. m ++ (place i c ∷ t)) (up_to_zero y)
