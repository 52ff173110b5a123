-- What the repeat at a node lays, block after block: the laws of Dwells at the nodes of a procedure. Assumes nothing.
use mathlib.Core.Path.{◌≡◌, refl, sym, ap, subst, ◌∙◌}
use mathlib.Core.Logic.{◌↔◌}
use mathlib.Core.Bool.{Bool, true, false}
use mathlib.Core.List.{List, [], ◌∷◌, ◌++◌, map, head-eq_of_cons-eq}
use Prim.Native.Nat.{ℕ, suc, ◌+◌, ◌-◌, ◌≤◌, ◌<◌}
use native.Mathlib.Numerals.{add-one}
use native.Mathlib.Omega.{arith}
use lib.ListN.{length, drop, get_or, length-append, length-drop}
use lib.Seq.{drop-cons}
use Rattle.std.specs.Bool.{then_some}
use Rattle.std.specs.Prelude.{Option, Some, None}
use Rattle.codes.specs.Codes.{Codes, Contains, no_codes}
use Rattle.meaning.specs.Expr.{Expr, Upper, repeat, size, root, Within}
use Rattle.meaning.specs.Node.{Node, Stands, bound}
use Rattle.meaning.specs.Normal.{nullable, low}
use Rattle.meaning.specs.Reading.{Item, opening, closing, Reading, codes}
use Rattle.meaning.specs.Record.{item_number}
use Rattle.meaning.specs.Sets.{First}
use Rattle.meaning.specs.Theory.Conflicts.{Free}
use Rattle.meaning.proofs.Expressions.Parts.{root-size}
use Rattle.procedure.specs.declared.bounds.Bounds.{Bounds}
use Rattle.procedure.specs.Bounds.{upper}
use Rattle.procedure.specs.Entry.{lower_of, upper_of}
use Rattle.procedure.specs.Tests.{Decides}
use Rattle.procedure.proofs.Standing.{at_repeat}
use Rattle.record.specs.Put.{put_at, puts}
use Rattle.record.proofs.Blocks.{block_of}
use Rattle.write.specs.declared.lay.Places.{Places}
use Rattle.write.specs.declared.lay.Source.{Source}
use Rattle.write.specs.Lay.{BoundsHere, Division, Lays, LaysAt, NextIn, Ready, Reported, into, never, count_of, node_of, run_of}
use Rattle.write.proofs.LaidBlocks.{Dwells, dwell_none, dwell_more, dwell_broken, dwell_idle, dwell_ended, dwell_off}
use Rattle.write.proofs.Laying.{first_here, next_there, null_here, past_mark, puts-both}

-- the repeat at node i, by its body
abbrev repeat_at : (ℕ → Node) → ℕ → Expr → Expr
repeat_at g i b = repeat b (lower_of (g i)) (bound (upper_of (g i)))

-- k blocks of the repeat at node i are laid from the first places up to the second
pub record DwellsAt (a : Source) (space : List ℕ) (i : ℕ) (from : Places) (k : ℕ) (at : Places) (mid : List ℕ) : Type 0 where
  pub dwells : (s : ℕ) (b : Expr) → Stands (node_of a) s (repeat_at (node_of a) i b) → s + size b ≡ i → Free (repeat_at (node_of a) i b)
      → (x : List Item) × Dwells s b (lower_of (node_of a i)) (bound (upper_of (node_of a i))) (drop from.event (run_of a)) k x (drop at.event (run_of a))
      × (at.item ≡ from.item + length x) × (mid ≡ puts space from.item (map item_number x))

pub dwell_starts : {a : Source} {space : List ℕ} {i : ℕ} {from : Places} → DwellsAt a space i from 0 from space
dwell_starts {a} {space} {i} {from} = record {
  dwells = λ s b p h free.
      ([], dwell_none s b (lower_of (node_of a i)) (bound (upper_of (node_of a i))) (drop from.event (run_of a)), omega arith, refl);
}

-- ---- places

-- a block is put as its opening, its body and its closing
block_puts : (r i : ℕ) (u : List Item) (space mid : List ℕ) (to t : ℕ) → r ≡ i → t ≡ to + 1 + length u
    → mid ≡ puts (put_at space to (i + 4096)) (to + 1) (map item_number u)
    → put_at mid t (i + 8192) ≡ puts space to (map item_number (block_of r u))
block_puts r i u space mid to t same e h =
    let opens : i + 4096 ≡ item_number (opening r) = omega arith in
    let closes : i + 8192 ≡ item_number (closing r) = omega arith in
    (λ k. put_at (h k) (e k) (closes k))
    ∙ ap (λ (n : ℕ). put_at (puts (put_at space to n) (to + 1) (map item_number u)) (to + 1 + length u) (item_number (closing r))) opens
    ∙ sym (puts-both u (closing r ∷ []) (put_at space to (item_number (opening r))) (to + 1))

-- the events that are laid are those up to the place
laid_events : (run : List ℕ) (at a : ℕ) (u v : List ℕ) → at ≤ a → a ≤ length run → drop at run ≡ u ++ v → v ≡ drop a run → length u ≡ a - at
laid_events run at a u v l h e f =
    let n : length (drop at run) ≡ length (u ++ v) = ap length e in
    let m : length v ≡ length (drop a run) = ap length f in
    omega (arith, length-append u v, length-drop at run, length-drop a run)

-- codes from a place on begin with the code there
begins_there : (run : List ℕ) (at c : ℕ) (u : List ℕ) → drop at run ≡ c ∷ u → (at < length run) × (get_or run at 0 ≡ c)
begins_there run at c u e =
    let n : length (drop at run) ≡ suc (length u) = ap length e in
    let l : at < length run = omega (arith, length-drop at run) in
    (l, head-eq_of_cons-eq (sym (drop-cons run at 0 l) ∙ e))

module _ {a : Source} {i : ℕ} {bounds : Bounds} (ready : Ready a) (below : i < count_of a) (bounded : BoundsHere a i bounds)
    {space mid : List ℕ} {from : Places} {k : ℕ} {at : Places} (stay : DwellsAt a space i from k at mid) where
  abbrev run : List ℕ
  run = run_of a

  abbrev g : ℕ → Node
  g = node_of a

  -- as they are written
  abbrev lower : ℕ
  lower = lower_of (g i)

  abbrev above : Upper
  above = bound (upper_of (g i))

  abbrev whole : Expr → Expr
  whole = repeat_at g i

  abbrev set : Codes
  set = get_or a.firsts.now i no_codes

  -- k blocks stand before v
  abbrev Dwell : ℕ → Expr → List Item → List ℕ → Type 0
  Dwell s b = Dwells s b lower above (drop from.event run) k

  -- what the walk tells of the whole
  abbrev Told : ℕ → Expr → Option Places → List ℕ → Type 0
  Told s b r after = (q : Division) × Lays (Reading s (whole b)) (whole b) (drop from.event run) q × Reported run space from.item q r after

  within : (n : ℕ) → Within n (upper bounds) → Within n above
  within n = subst (Within n) bounded.normal.most

  -- the body stands before the repeat
  body_at : (s : ℕ) (b : Expr) → s + size b ≡ i → root s b ≡ i - 1
  body_at s b h = omega (arith, root-size s b)

  firsts_at : (s : ℕ) (b : Expr) → Stands g s (whole b) → s + size b ≡ i → (c : ℕ) → Contains set c ↔ First b c
  firsts_at s b = first_here ready below s (whole b)

  -- what each repeat that stands here lays
  repeat_lays : (r : Option Places) (after : List ℕ)
      → ((s : ℕ) (b : Expr) → Stands g s (whole b) → s + size b ≡ i → Free (whole b) → Told s b r after) → LaysAt a space i from r after
  repeat_lays r after told = record {
    lays = λ s e st h free.
        at_repeat g s i _ refl
        (λ e. Stands g s e → Free e → (q : Division) × Lays (Reading s e) e (drop from.event run) q × Reported run space from.item q r after) bounded.repeats
        (λ b _ _ q st free. told s b st q free) e st h st free;
  }

  -- ---- another block begins

  -- the space with the block's opening
  module _ (next : NextIn set run at.event) (room : Within (k + 1) (upper bounds)) {opened : List ℕ} (opens : opened ≡ put_at mid at.item (i + 4096)) where
    abbrev code : ℕ
    code = get_or run at.event 0

    abbrev rest : List ℕ
    rest = drop (at.event + 1) run

    begun : (s : ℕ) (b : Expr) → Stands g s (whole b) → s + size b ≡ i → First b code
    begun s b st h = (firsts_at s b st h code).0 next.1

    dwell_here : (s : ℕ) (b : Expr) (x : List Item) → Dwell s b x (drop at.event run) → Dwell s b x (code ∷ rest)
    dwell_here s b x = subst (Dwell s b x) (next_there set run at.event next)

    lays_here : (s : ℕ) (b : Expr) (q : Division) → Lays (Reading s b) b (drop at.event run) q → Lays (Reading s b) b (code ∷ rest) q
    lays_here s b q = subst (λ (w : List ℕ). Lays (Reading s b) b w q) (next_there set run at.event next)

    pub dwell_goes : {to : Places} {after closed : List ℕ} → LaysAt a opened (i - 1) (past_mark at) (Some to) after → at.event < to.event → to.event ≤ length run
        → closed ≡ put_at after to.item (i + 8192) → DwellsAt a space i from (k + 1) (past_mark to) closed
    dwell_goes {to} {after} {closed} laid l h closes = record {
      dwells = λ s b st q free.
          let y = stay.dwells s b st q free in
          let z = laid.lays s b st.0 (body_at s b q) free.0 in
          go s b st q free y.0 y.1 y.2 y.3 z.0 z.1 z.2;
    }
      where
        go : (s : ℕ) (b : Expr) → Stands g s (whole b) → s + size b ≡ i → Free (whole b) → (x : List Item)
            → Dwell s b x (drop at.event run) → at.item ≡ from.item + length x
            → mid ≡ puts space from.item (map item_number x) → (q : Division) → Lays (Reading s b) b (drop at.event run) q
            → Reported run opened (at.item + 1) q (Some to) after
            → (x : List Item) × Dwells s b lower above (drop from.event run) (k + 1) x (drop to.event run)
            × (to.item + 1 ≡ from.item + length x) × (closed ≡ puts space from.item (map item_number x))
        go s b st q free x so_far count put (into u v) lays told =
            let r = s + size b in
            let some : 1 ≤ length (codes u) = omega (arith, laid_events run at.event to.event (codes u) v (omega arith) h lays.divided.1 told.0) in
            let more = dwell_more s b lower above (drop from.event run) k x free code rest
            (dwell_here s b x so_far) (begun s b st q) (within (k + 1) room) u v some (lays_here s b (into u v) lays) in
            let one : suc k ≡ k + 1 = sym (add-one k) in
            let length_block : length (block_of r u) ≡ length u + 2 = omega (arith, length-append u (closing r ∷ [])) in
            let n : to.item + 1 ≡ from.item + length (x ++ block_of r u) = omega (arith, told.1, length-append x (block_of r u)) in
            let into_opened : after ≡ puts (put_at mid at.item (i + 4096)) (at.item + 1) (map item_number u) =
            told.2 ∙ ap (λ (w : List ℕ). puts w (at.item + 1) (map item_number u)) opens in (
              x ++ block_of r u,
              subst (λ (j : ℕ). Dwells s b lower above (drop from.event run) j (x ++ block_of r u) (drop to.event run)) one
                  (subst (Dwells s b lower above (drop from.event run) (suc k) (x ++ block_of r u)) told.0 more),
              n,
              closes ∙ block_puts r i u mid after at.item to.item q told.1 into_opened ∙ (λ j. puts (put j) (count j) (map item_number (block_of r u)))
                  ∙ sym (puts-both x (block_of r u) space from.item),
            )
        go s b st q free x so_far count put never lays told = absurd told

    module _ {after : List ℕ} where
      pub unlaid_body : LaysAt a opened (i - 1) (past_mark at) None after → LaysAt a space i from None after
      unlaid_body laid =
          repeat_lays None after
          (λ s b st q free.
          let y = stay.dwells s b st q free in
          let z = laid.lays s b st.0 (body_at s b q) free.0 in
          go s b st q free y.0 y.1 z.0 z.1 z.2)
        where
          go : (s : ℕ) (b : Expr) → Stands g s (whole b) → s + size b ≡ i → Free (whole b) → (x : List Item) → Dwell s b x (drop at.event run)
              → (q : Division) → Lays (Reading s b) b (drop at.event run) q → Reported run opened (at.item + 1) q None after → Told s b None after
          go s b st q free x so_far (into u v) lays told = absurd told
          go s b st q free x so_far never lays told = (
            never,
            dwell_broken s b lower above (drop from.event run) k x free code rest
                (dwell_here s b x so_far) (begun s b st q) (within (k + 1) room) (lays_here s b never lays),
            tt,
          )

      -- a block holds at least one event
      pub unlaid_event : {to : Places} → LaysAt a opened (i - 1) (past_mark at) (Some to) after → to.event ≡ at.event → at.event ≤ length run
          → LaysAt a space i from None after
      unlaid_event {to} laid same inside =
          repeat_lays None after
          (λ s b st q free.
          let y = stay.dwells s b st q free in
          let z = laid.lays s b st.0 (body_at s b q) free.0 in
          go s b st q free y.0 y.1 z.0 z.1 z.2)
        where
          empty : (w : List ℕ) → length w ≡ 0 → w ≡ []
          empty [] h = refl
          empty (c ∷ w) h = absurd (omega arith)

          go : (s : ℕ) (b : Expr) → Stands g s (whole b) → s + size b ≡ i → Free (whole b) → (x : List Item) → Dwell s b x (drop at.event run)
              → (q : Division) → Lays (Reading s b) b (drop at.event run) q → Reported run opened (at.item + 1) q (Some to) after → Told s b None after
          go s b st q free x so_far (into u v) lays told =
              let none : codes u ≡ [] =
              empty (codes u) (omega (arith, laid_events run at.event to.event (codes u) v (omega arith) (omega arith) lays.divided.1 told.0)) in (
                never,
                dwell_idle s b lower above (drop from.event run) k x free code rest
                    (dwell_here s b x so_far) (begun s b st q) (within (k + 1) room) u v none (lays_here s b (into u v) lays),
                tt,
              )
          go s b st q free x so_far never lays told = absurd told

  -- ---- no other block begins

  pub dwell_stops : (may : Bool) → ¬ (NextIn set run at.event × Within (k + 1) (upper bounds))
      → Decides ((bounds.least ≤ k) × Within k (upper bounds)) may → LaysAt a space i from (then_some may at) mid
  dwell_stops may out ends =
      repeat_lays (then_some may at) mid
      (λ s b st q free.
      let y = stay.dwells s b st q free in
      go s b st q may (least s b st q) ends y.0 y.1 y.2 y.3)
    where
      least : (s : ℕ) (b : Expr) → Stands g s (whole b) → s + size b ≡ i → bounds.least ≡ low (nullable b) lower
      least s b st q =
          bounded.normal.least
          ∙ ap (λ (n : Bool). low n lower) (null_here ready (omega arith) s b st.0 (body_at s b q))

      shut : (s : ℕ) (b : Expr) → Stands g s (whole b) → s + size b ≡ i → (c : ℕ) (u : List ℕ) → drop at.event run ≡ c ∷ u → First b c
          → Within (k + 1) above → ⊥
      shut s b st q c u e f room =
          let there = begins_there run at.event c u e in
          let has = (firsts_at s b st q (get_or run at.event 0)).1 (subst (First b) (sym there.1) f) in
          out ((there.0, has), subst (Within (k + 1)) (sym bounded.normal.most) room)

      go : (s : ℕ) (b : Expr) → Stands g s (whole b) → s + size b ≡ i → (may : Bool) → bounds.least ≡ low (nullable b) lower
          → Decides ((bounds.least ≤ k) × Within k (upper bounds)) may
          → (x : List Item) → Dwell s b x (drop at.event run)
          → at.item ≡ from.item + length x → mid ≡ puts space from.item (map item_number x) → Told s b (then_some may at) mid
      go s b st q true same ends x so_far count put = (
        into x (drop at.event run),
        dwell_ended s b lower above (drop from.event run) k x (drop at.event run) so_far (shut s b st q) (omega (arith, same, ends.0)) (within k ends.1),
        (refl, count, put),
      )
      go s b st q false same ends x so_far count put = (
        never,
        dwell_off s b lower above (drop from.event run) k x (drop at.event run) so_far (shut s b st q)
            (λ h. ends (omega (arith, same, h.0), subst (Within k) (sym bounded.normal.most) h.1)),
        tt,
      )
