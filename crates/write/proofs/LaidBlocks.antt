-- What a repeat lays of the codes of a run: the laws of Dwells, which has the blocks so far, and any blocks are these and more. Without
-- a conflict the next code says whether a block goes on, another begins, or the repeat ends. Assumes nothing.
use mathlib.Core.Path.{◌≡◌, refl, sym, ap, subst, ◌∙◌}
use mathlib.Core.Logic.{inl, inr}
use mathlib.Core.List.{List, [], ◌∷◌, ◌++◌, append_assoc, append-nil}
use Prim.Native.Nat.{ℕ, suc, ◌+◌, ◌≤◌}
use native.Mathlib.Omega.{arith}
use lib.ListN.{length}
use Rattle.meaning.specs.Expr.{Expr, repeat, size, Upper, Within}
use Rattle.meaning.specs.Lists.{Power, none, Times, times}
use Rattle.meaning.specs.Normal.{nullable, low}
use Rattle.meaning.specs.Reading.{Item, codes, Block, block, Reading}
use Rattle.meaning.specs.Sets.{First}
use Rattle.meaning.specs.Theory.Conflicts.{Free}
use Rattle.meaning.proofs.General.Facts.{append_cut, power_snoc, within_le}
use Rattle.meaning.proofs.Expressions.Items.{codes-append, codes_block, events_append}
use Rattle.write.specs.Lay.{Detached, into, never, Lays}
use Rattle.record.proofs.Blocks.{block_of, by_block}
use Rattle.meaning.proofs.Expressions.ReadingHeads.{blocks_first, reading_first}
use Rattle.write.proofs.Lays.{by_first, same_division}

-- so many blocks of the repeat with body b, which stands from s on
abbrev pub BlocksOf : ℕ → Expr → ℕ → List Item → Type 0
BlocksOf s b = Power (Block (Reading s b) (s + size b))

-- k blocks x of the repeat stand before v, and any blocks with which the repeat may end here are these and more
pub record Dwells (s : ℕ) (b : Expr) (lower : ℕ) (upper : Upper) (w : List ℕ) (k : ℕ) (x : List Item) (v : List ℕ) : Type 0 where
  pub so_far : BlocksOf s b k x
  pub before : w ≡ codes x ++ v
  pub further : (j : ℕ) (y : List Item) (t : List ℕ) → BlocksOf s b j y → low (nullable b) lower ≤ j → Within j upper → w ≡ codes y ++ t
      → Detached (repeat b lower upper) y t → (d : ℕ) × (z : List Item) × (j ≡ k + d) × (y ≡ x ++ z) × BlocksOf s b d z × (v ≡ codes z ++ t)

pub dwell_none : (s : ℕ) (b : Expr) (lower : ℕ) (upper : Upper) (w : List ℕ) → Dwells s b lower upper w 0 [] w
dwell_none s b lower upper w = record { so_far = none; before = refl; further = λ j y t p l u e h. (j, y, omega arith, refl, p, e) }

-- ---- the codes of blocks

block_codes : (r : ℕ) (u z : List Item) (t : List ℕ) → codes (block_of r u ++ z) ++ t ≡ codes u ++ (codes z ++ t)
block_codes r u z t =
    append_cut (codes (block_of r u ++ z)) (codes u) (codes z) t
    (codes-append (block_of r u) z ∙ ap (λ (q : List ℕ). q ++ codes z) (codes_block r u))

-- items with a block hold an event
block_event : (r : ℕ) (x u z y : List Item) → y ≡ x ++ (block_of r u ++ z) → 1 ≤ length (codes u) → 1 ≤ length (codes y)
block_event r x u z y e h =
    let n : length (codes y) ≡ length (codes (x ++ (block_of r u ++ z))) = ap (λ (q : List Item). length (codes q)) e in
    let m : length (codes (block_of r u)) ≡ length (codes u) = ap length (codes_block r u) in
    omega (arith, events_append x (block_of r u ++ z), events_append (block_of r u) z)

-- blocks with an event are one at least
some_blocks : (s : ℕ) (b : Expr) (j : ℕ) (y : List Item) → BlocksOf s b j y → 1 ≤ length (codes y) → 1 ≤ j
some_blocks s b j y p h =
    by_block p (λ d e. let n : length (codes y) ≡ 0 = ap (λ (q : List Item). length (codes q)) e in absurd (omega arith))
    (λ c u z d e q n m. omega arith)

module _ (s : ℕ) (b : Expr) (lower : ℕ) (upper : Upper) (w : List ℕ) (k : ℕ) (x : List Item) where
  -- ---- another block begins

  module _ (free : Free (repeat b lower upper)) (c : ℕ) (v : List ℕ) (a : Dwells s b lower upper w k x (c ∷ v)) (f : First b c)
      (room : Within (k + 1) upper) where
    -- the repeat does not end here
    goes_on : (j : ℕ) (y : List Item) (t : List ℕ) → BlocksOf s b j y → j ≡ k → low (nullable b) lower ≤ j → c ∷ v ≡ t → Detached (repeat b lower upper) y t → ⊥
    goes_on j y t p same l e h =
        let g = subst (Detached (repeat b lower upper) y) (sym e) h in
        by_first (codes y) (λ n. g.0 n f)
        (λ d u n.
        let m : length (codes y) ≡ length (d ∷ u) = ap length n in
        let one = some_blocks s b j y p (omega arith) in
        g.1 (omega arith) (inr ((within_le 2 (k + 1) upper (omega arith) room, within_le (low (nullable b) lower + 1) (k + 1) upper (omega arith) room), f)))

    -- what comes after the body of a block does not continue it
    detached_body : (j d : ℕ) (u z y : List Item) (t : List ℕ) → y ≡ x ++ (block_of (s + size b) u ++ z) → 1 ≤ length (codes u) → BlocksOf s b d z
        → j ≡ suc k + d → Within j upper → Detached (repeat b lower upper) y t → Detached b u (codes z ++ t)
    detached_body j d u z y t e h p same l g =
        by_first (codes z) (λ n. subst (Detached b u) (sym (ap (λ (q : List ℕ). q ++ t) n)) (last t g))
        (λ i q n.
        let m : length (codes z) ≡ length (i ∷ q) = ap length n in
        let one = some_blocks s b d z p (omega arith) in
        subst (Detached b u) (sym (ap (λ (q : List ℕ). q ++ t) n))
        (λ m g. has_event m, λ m g. free.1 4 i (refl, within_le 2 j upper (omega arith) l, g, blocks_first (First b) (reading_first s b) p i q n)))
      where
        has_event : codes u ≡ [] → ⊥
        has_event m = let n : length (codes u) ≡ 0 = ap length m in omega arith

        last : (t : List ℕ) → Detached (repeat b lower upper) y t → Detached b u t
        last [] g = tt
        last (i ∷ t) g = (λ m q. has_event m, λ m q. g.1 (block_event (s + size b) x u z y e h) (inl q))

    -- so some block follows
    opened : (j : ℕ) (y : List Item) (t : List ℕ) → BlocksOf s b j y → low (nullable b) lower ≤ j → Within j upper → w ≡ codes y ++ t
        → Detached (repeat b lower upper) y t
        → (d : ℕ) × (u z : List Item) × (j ≡ suc k + d) × (y ≡ x ++ (block_of (s + size b) u ++ z)) × Reading s b u × (1 ≤ length (codes u))
        × BlocksOf s b d z × (c ∷ v ≡ codes u ++ (codes z ++ t)) × Detached b u (codes z ++ t)
    opened j y t p l m e h =
        let g = a.further j y t p l m e h in
        by_block g.4
        (λ d z. absurd (goes_on j y t p (omega (arith, g.2)) l (g.5 ∙ ap (λ (q : List Item). codes q ++ t) z) h))
        (λ d u z i q body n rest.
        let same : y ≡ x ++ (block_of (s + size b) u ++ z) = g.3 ∙ ap (λ (q : List Item). x ++ q) q in
        let count : j ≡ suc k + d = omega (arith, g.2) in (
          d,
          u,
          z,
          count,
          same,
          body,
          n,
          rest,
          g.5 ∙ ap (λ (q : List Item). codes q ++ t) q ∙ block_codes (s + size b) u z t,
          detached_body j d u z y t same n rest count m h,
        ))

    pub dwell_more : (u : List Item) (t : List ℕ) → 1 ≤ length (codes u) → Lays (Reading s b) b (c ∷ v) (into u t)
        → Dwells s b lower upper w (suc k) (x ++ block_of (s + size b) u) t
    dwell_more u t n body = record {
      so_far = power_snoc k x (block_of (s + size b) u) a.so_far (block u n body.divided.0);
      before = a.before ∙ ap (λ (q : List ℕ). codes x ++ q) body.divided.1
          ∙ sym (append_cut (codes (x ++ block_of (s + size b) u)) (codes x) (codes u) t
          (codes-append x (block_of (s + size b) u) ∙ ap (λ (q : List ℕ). codes x ++ q) (codes_block (s + size b) u)));
      further = go;
    }
      where
        go : (j : ℕ) (y : List Item) (t' : List ℕ) → BlocksOf s b j y → low (nullable b) lower ≤ j → Within j upper → w ≡ codes y ++ t'
            → Detached (repeat b lower upper) y t'
            → (d : ℕ) × (z : List Item) × (j ≡ suc k + d) × (y ≡ (x ++ block_of (s + size b) u) ++ z) × BlocksOf s b d z × (t ≡ codes z ++ t')
        go j y t' p l m e h =
            let g = opened j y t' p l m e h in
            let same : into u t ≡ into g.1 (codes g.2 ++ t') = body.only g.1 (codes g.2 ++ t') g.5 g.8 g.9 in
            let first : u ≡ g.1 = cc in
            let rest : t ≡ codes g.2 ++ t' = cc in
            let all : y ≡ (x ++ block_of (s + size b) u) ++ g.2 =
            g.4 ∙ ap (λ (q : List Item). x ++ (block_of (s + size b) q ++ g.2)) (sym first) ∙ sym (append_assoc x (block_of (s + size b) u) g.2) in
            (g.0, g.2, g.3, all, g.7, rest)

    -- no block stands here, so no reading of the repeat does
    broken : ((u : List Item) (t : List ℕ) → Reading s b u → 1 ≤ length (codes u) → c ∷ v ≡ codes u ++ t → Detached b u t → ⊥)
        → Lays (Reading s (repeat b lower upper)) (repeat b lower upper) w never
    broken bad = record { divided = tt; only = go }
      where
        go : (y : List Item) (t : List ℕ) → Times (Block (Reading s b) (s + size b)) (low (nullable b) lower) upper y → w ≡ codes y ++ t
            → Detached (repeat b lower upper) y t → never ≡ into y t
        go y t (times j l m p) e h =
            let g = opened j y t p l m e h in
            absurd (bad g.1 (codes g.2 ++ t) g.5 g.6 g.8 g.9)

    pub dwell_broken : Lays (Reading s b) b (c ∷ v) never → Lays (Reading s (repeat b lower upper)) (repeat b lower upper) w never
    dwell_broken body = broken
        (λ u t p n e h.
        let same : never ≡ into u t = body.only u t p e h in
        let z : ◌≡◌ {A = ℕ} 0 1 = cc in
        omega arith)

    -- a body without an event makes no block
    pub dwell_idle : (u : List Item) (t : List ℕ) → codes u ≡ [] → Lays (Reading s b) b (c ∷ v) (into u t)
        → Lays (Reading s (repeat b lower upper)) (repeat b lower upper) w never
    dwell_idle u t empty body = broken
        (λ q r p n e h.
        let same : into u t ≡ into q r = body.only q r p e h in
        let first : q ≡ u = cc in
        let z : length (codes q) ≡ 0 = ap length (ap codes first ∙ empty) in
        omega arith)

  -- ---- no other block begins

  module _ (v : List ℕ) (a : Dwells s b lower upper w k x v) (shut : (c : ℕ) (u : List ℕ) → v ≡ c ∷ u → First b c → Within (k + 1) upper → ⊥) where
    ended : (j : ℕ) (y : List Item) (t : List ℕ) → BlocksOf s b j y → low (nullable b) lower ≤ j → Within j upper → w ≡ codes y ++ t
        → Detached (repeat b lower upper) y t → (j ≡ k) × (x ≡ y) × (v ≡ t)
    ended j y t p l m e h =
        let g = a.further j y t p l m e h in
        by_block g.4
        (λ d z. (omega (arith, g.2), sym (g.3 ∙ ap (λ (q : List Item). x ++ q) z ∙ append-nil x), g.5 ∙ ap (λ (q : List Item). codes q ++ t) z))
        (λ d u z i q body n rest.
        by_first (codes u) (λ e. let o : length (codes u) ≡ 0 = ap length e in absurd (omega arith))
        (λ c r begins.
        absurd (shut c (r ++ (codes z ++ t))
        (g.5 ∙ ap (λ (q : List Item). codes q ++ t) q ∙ block_codes (s + size b) u z t ∙ ap (λ (o : List ℕ). o ++ (codes z ++ t)) begins)
        (reading_first s b u c r body begins) (within_le (k + 1) j upper (omega (arith, g.2)) m))))

    pub dwell_ended : low (nullable b) lower ≤ k → Within k upper → Lays (Reading s (repeat b lower upper)) (repeat b lower upper) w (into x v)
    dwell_ended l m = record { divided = (times k l m a.so_far, a.before); only = go }
      where
        go : (y : List Item) (t : List ℕ) → Times (Block (Reading s b) (s + size b)) (low (nullable b) lower) upper y → w ≡ codes y ++ t
            → Detached (repeat b lower upper) y t → into x v ≡ into y t
        go y t (times j l m p) e h = let g = ended j y t p l m e h in same_division x y v t g.1 g.2

    pub dwell_off : ¬ ((low (nullable b) lower ≤ k) × Within k upper) → Lays (Reading s (repeat b lower upper)) (repeat b lower upper) w never
    dwell_off out = record { divided = tt; only = go }
      where
        go : (y : List Item) (t : List ℕ) → Times (Block (Reading s b) (s + size b)) (low (nullable b) lower) upper y → w ≡ codes y ++ t
            → Detached (repeat b lower upper) y t → never ≡ into y t
        go y t (times j l m p) e h =
            let same = (ended j y t p l m e h).0 in
            absurd (out (omega arith, subst (λ (i : ℕ). Within i upper) same m))
