-- What a repeat takes of the numbers of items: a stay is the blocks so far, and any blocks are these and more. Assumes nothing.
use mathlib.Core.Path.{◌≡◌, refl, sym, ap, subst, ◌∙◌}
use mathlib.Core.Logic.{◌⊎◌, inl, inr, ⊎_elim}
use mathlib.Core.List.{List, [], ◌∷◌, ◌++◌, map}
use Prim.Native.Nat.{ℕ, suc, ◌+◌, ◌≤◌, ◌<◌}
use native.Mathlib.Omega.{arith}
use lib.ListN.{length, length-append}
use Rattle.meaning.specs.Expr.{Upper, Within}
use Rattle.meaning.specs.Lists.{Power, none, more, Times, times}
use Rattle.meaning.specs.Reading.{Item, opening, closing, codes, Block, block}
use Rattle.meaning.specs.Record.{item_number}
use Rattle.meaning.proofs.General.Facts.{power_snoc}
use Rattle.record.specs.Walk.{Outside, from, nowhere, Eats}
use Rattle.record.proofs.Eats.{map_append}

-- d more blocks stand before t, which make j
abbrev FurtherBlocks : (List Item → Type 0) → ℕ → ℕ → List ℕ → ℕ → List ℕ → Type 0
FurtherBlocks P r k v j t = (d : ℕ) × (z : List Item) × (j ≡ k + d) × Power (Block P r) d z × (v ≡ map item_number z ++ t)

-- k blocks of repeat r stand before v, and any blocks that leave what does not begin inside the repeat are these k and more
pub record Stay (P : List Item → Type 0) (s r : ℕ) (w : List ℕ) (k : ℕ) (v : List ℕ) : Type 0 where
  pub so_far : (x : List Item) × Power (Block P r) k x × (w ≡ map item_number x ++ v)
  pub further : (j : ℕ) (y : List Item) (t : List ℕ) → Power (Block P r) j y → w ≡ map item_number y ++ t → Outside s r t → FurtherBlocks P r k v j t

pub stay_none : (P : List Item → Type 0) (s r : ℕ) (w : List ℕ) → Stay P s r w 0 w
stay_none P s r w = record { so_far = ([], none, refl); further = λ j y t p e o. (j, y, omega arith, p, e) }

-- ---- blocks as numbers

-- a block of repeat r around the items
abbrev pub block_of : ℕ → List Item → List Item
block_of r x = opening r ∷ (x ++ (closing r ∷ []))

-- blocks are none, or a first one and more
pub by_block : {C : Type 0} {P : List Item → Type 0} {r d : ℕ} {z : List Item} → Power (Block P r) d z → (d ≡ 0 → z ≡ [] → C)
    → ((c : ℕ) (u y : List Item) → d ≡ suc c → z ≡ block_of r u ++ y → P u → 1 ≤ length (codes u) → Power (Block P r) c y → C) → C
by_block none a b = a refl refl
by_block (more c u y (block x k p) q) a b = b c x y refl refl p k q

block_numbers : (r : ℕ) (x : List Item) (t : List ℕ)
    → map item_number (block_of r x) ++ t ≡ (r + 4096) ∷ (map item_number x ++ ((r + 8192) ∷ t))
block_numbers r x t = ap {B = List ℕ} (λ w. (r + 4096) ∷ w) (map_append x (closing r ∷ []) t)

-- what stands in front of some blocks: nothing, or a first block
abbrev LeadBlock : (List Item → Type 0) → ℕ → ℕ → List ℕ → List ℕ → Type 0
LeadBlock P r d v t =
    (c : ℕ) × (x z : List Item) × (d ≡ suc c) × P x × (1 ≤ length (codes x)) × Power (Block P r) c z
    × (v ≡ (r + 4096) ∷ (map item_number x ++ ((r + 8192) ∷ (map item_number z ++ t))))

first_block : {P : List Item → Type 0} {r d : ℕ} {z : List Item} (t v : List ℕ) → Power (Block P r) d z → v ≡ map item_number z ++ t
    → ((d ≡ 0) × (v ≡ t)) ⊎ LeadBlock P r d v t
first_block {r = r} t v p e =
    by_block p (λ d y. inl (d, e ∙ ap (λ (y : List Item). map item_number y ++ t) y))
    (λ c x z d y q k m. inr (
      c,
      x,
      z,
      d,
      q,
      k,
      m,
      e ∙ ap (λ (y : List Item). map item_number y ++ t) y ∙ map_append (block_of r x) z t ∙ block_numbers r x (map item_number z ++ t),
    ))

tail_same : (m n : ℕ) (u v : List ℕ) → ◌≡◌ {A = List ℕ} (m ∷ u) (n ∷ v) → u ≡ v
tail_same m n u v e = cc

-- ---- the laws of a stay; m is the node of the body

module _ (P : List Item → Type 0) (s m r : ℕ) (next : m + 1 ≡ r) (from_s : s ≤ r) (small : r < 4096) (w : List ℕ) (k : ℕ) where
  -- at an opening some block follows
  opened : (u : List ℕ) → Stay P s r w k ((r + 4096) ∷ u) → (j : ℕ) (y : List Item) (t : List ℕ) → Power (Block P r) j y
      → w ≡ map item_number y ++ t → Outside s r t
      → (c : ℕ) × (x z : List Item) × (j ≡ suc k + c) × P x × (1 ≤ length (codes x)) × Power (Block P r) c z
      × (u ≡ map item_number x ++ ((r + 8192) ∷ (map item_number z ++ t)))
  opened u a j y t p e o =
      let f = a.further j y t p e o in
      ⊎_elim
      (λ q. let out : Outside s r ((r + 4096) ∷ u) = subst (Outside s r) (sym q.1) o in absurd (out (omega arith)))
      (λ q. (q.0, q.1, q.2, omega (arith, f.2, q.3), q.4, q.5, q.6, tail_same (r + 4096) (r + 4096) u _ q.7))
      (first_block t ((r + 4096) ∷ u) f.3 f.4)

  pub stay_more : (u v : List ℕ) → Stay P s r w k ((r + 4096) ∷ u) → ((x : List Item) → P x → 1 ≤ length x → 1 ≤ length (codes x))
      → ¬ (u ≡ (r + 8192) ∷ v) → Eats P s m u (from ((r + 8192) ∷ v)) → Stay P s r w (suc k) v
  stay_more u v a long here b = record { so_far = one_more; further = go }
    where
      has_item : (x : List Item) → u ≡ map item_number x ++ ((r + 8192) ∷ v) → 1 ≤ length x
      has_item [] e = absurd (here e)
      has_item (y ∷ x) e = omega arith

      one_more : (x : List Item) × Power (Block P r) (suc k) x × (w ≡ map item_number x ++ v)
      one_more =
          let x = a.so_far.0 in
          let y = b.eaten.0 in
          let e : w ≡ map item_number (x ++ block_of r y) ++ v =
          a.so_far.2 ∙ ap (λ (z : List ℕ). map item_number x ++ ((r + 4096) ∷ z)) b.eaten.2
          ∙ ap (λ (z : List ℕ). map item_number x ++ z) (sym (block_numbers r y v)) ∙ sym (map_append x (block_of r y) v) in
          (x ++ block_of r y, power_snoc k x (block_of r y) a.so_far.1 (block y (long y b.eaten.1 (has_item y b.eaten.2)) b.eaten.1), e)

      go : (j : ℕ) (y : List Item) (t : List ℕ) → Power (Block P r) j y → w ≡ map item_number y ++ t → Outside s r t → FurtherBlocks P r (suc k) v j t
      go j y t p e o =
          let f = opened u a j y t p e o in
          let same : from ((r + 8192) ∷ v) ≡ from ((r + 8192) ∷ (map item_number f.2 ++ t)) =
          b.only f.1 ((r + 8192) ∷ (map item_number f.2 ++ t)) f.4 f.7 (λ q. omega arith) in
          let rest : v ≡ map item_number f.2 ++ t = cc in
          (f.0, f.2, f.3, f.6, rest)

  module _ (lo : ℕ) (up : Upper) where
    -- an opening after which no block stands
    pub stay_broken : (u : List ℕ) → Stay P s r w k ((r + 4096) ∷ u)
        → ((x : List Item) (t : List ℕ) → P x → 1 ≤ length (codes x) → u ≡ map item_number x ++ ((r + 8192) ∷ t) → ⊥)
        → Eats (Times (Block P r) lo up) s r w nowhere
    stay_broken u a bad = record { eaten = tt; only = go }
      where
        go : (x : List Item) (t : List ℕ) → Times (Block P r) lo up x → w ≡ map item_number x ++ t → Outside s r t → nowhere ≡ from t
        go x t (times j l h p) e o =
            let f = opened u a j x t p e o in
            absurd (bad f.1 (map item_number f.2 ++ t) f.4 f.5 f.7)

    -- no opening follows
    ended : (v : List ℕ) → Stay P s r w k v → ((u : List ℕ) → ¬ (v ≡ (r + 4096) ∷ u)) → (j : ℕ) (x : List Item) (t : List ℕ)
        → Power (Block P r) j x → w ≡ map item_number x ++ t → Outside s r t → (j ≡ k) × (v ≡ t)
    ended v a shut j x t p e o =
        let f = a.further j x t p e o in
        ⊎_elim (λ q. (omega (arith, f.2, q.0), q.1)) (λ q. absurd (shut _ q.7)) (first_block t v f.3 f.4)

    pub stay_ended : (v : List ℕ) → Stay P s r w k v → ((u : List ℕ) → ¬ (v ≡ (r + 4096) ∷ u)) → lo ≤ k → Within k up
        → Eats (Times (Block P r) lo up) s r w (from v)
    stay_ended v a shut l h = record { eaten = (a.so_far.0, times k l h a.so_far.1, a.so_far.2); only = go }
      where
        go : (x : List Item) (t : List ℕ) → Times (Block P r) lo up x → w ≡ map item_number x ++ t → Outside s r t → from v ≡ from t
        go x t (times j m n p) e o = ap from (ended v a shut j x t p e o).1

    pub stay_off : (v : List ℕ) → Stay P s r w k v → ((u : List ℕ) → ¬ (v ≡ (r + 4096) ∷ u)) → ¬ ((lo ≤ k) × Within k up)
        → Eats (Times (Block P r) lo up) s r w nowhere
    stay_off v a shut h = record { eaten = tt; only = go }
      where
        go : (x : List Item) (t : List ℕ) → Times (Block P r) lo up x → w ≡ map item_number x ++ t → Outside s r t → nowhere ≡ from t
        go x t (times j l n p) e o =
            let same = (ended v a shut j x t p e o).0 in
            absurd (h (omega arith, subst (λ (i : ℕ). Within i up) same n))

-- ---- why no block stands after an opening

module _ (P : List Item → Type 0) (s m r : ℕ) (next : m + 1 ≡ r) (small : r < 4096) (u : List ℕ) where
  pub no_body : Eats P s m u nowhere
      → (x : List Item) (t : List ℕ) → P x → 1 ≤ length (codes x) → u ≡ map item_number x ++ ((r + 8192) ∷ t) → ⊥
  no_body a x t p l e =
      let same : nowhere ≡ from ((r + 8192) ∷ t) = a.only x ((r + 8192) ∷ t) p e (λ q. omega arith) in
      let c : ◌≡◌ {A = ℕ} 0 1 = cc in
      omega arith

  pub no_closing : (v : List ℕ) → Eats P s m u (from v) → ((t : List ℕ) → ¬ (v ≡ (r + 8192) ∷ t))
      → (x : List Item) (t : List ℕ) → P x → 1 ≤ length (codes x) → u ≡ map item_number x ++ ((r + 8192) ∷ t) → ⊥
  no_closing v a h x t p l e =
      let same : from v ≡ from ((r + 8192) ∷ t) = a.only x ((r + 8192) ∷ t) p e (λ q. omega arith) in
      let c : v ≡ (r + 8192) ∷ t = cc in
      h t c

  shorter : (x : List Item) (v : List ℕ) → u ≡ map item_number x ++ v → u ≡ v → 1 ≤ length (codes x) → ⊥
  shorter [] v e h l = omega arith
  shorter (a ∷ x) v e h l =
      let n : length u ≡ suc (length (map item_number x ++ v)) = ap length e in
      let k : length u ≡ length v = ap length h in
      omega (arith, length-append (map item_number x) v)

  pub no_event : Eats P s m u (from u)
      → (x : List Item) (t : List ℕ) → P x → 1 ≤ length (codes x) → u ≡ map item_number x ++ ((r + 8192) ∷ t) → ⊥
  no_event a x t p l e =
      let same : from u ≡ from ((r + 8192) ∷ t) = a.only x ((r + 8192) ∷ t) p e (λ q. omega arith) in
      let c : u ≡ (r + 8192) ∷ t = cc in
      shorter x ((r + 8192) ∷ t) e c l
