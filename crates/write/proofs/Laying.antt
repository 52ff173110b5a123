-- What the part at a node lays, from what its children lay: the laws of Lays at the nodes of a procedure. Assumes nothing.
use mathlib.Core.Path.{◌≡◌, refl, sym, ap, subst, ◌∙◌}
use mathlib.Core.Logic.{◌↔◌, ⊎_elim}
use mathlib.Core.Bool.{Bool, true, false, false≢true}
use mathlib.Core.List.{List, [], ◌∷◌, ◌++◌, map}
use Prim.Native.Nat.{ℕ, zero, suc, ◌+◌, ◌-◌, ◌≤◌, ◌<◌}
use native.Mathlib.Numerals.{add-one}
use native.Mathlib.Omega.{arith}
use lib.ListN.{length, drop, get_or, length-append}
use lib.Seq.{drop-cons}
use Rattle.std.specs.Bool.{then_some}
use Rattle.std.specs.Prelude.{Option, Some, None}
use Rattle.codes.specs.Codes.{Codes, Contains, no_codes}
use Rattle.meaning.specs.Expr.{Expr, event, choice, sequence, root, size}
use Rattle.meaning.specs.Node.{Node, Stands}
use Rattle.meaning.specs.Normal.{nullable}
use Rattle.meaning.specs.Reading.{Item, place, Reading}
use Rattle.meaning.specs.Record.{item_number}
use Rattle.meaning.specs.Sets.{First}
use Rattle.meaning.specs.Theory.Conflicts.{Free}
use Rattle.procedure.specs.declared.node.Node.TheVariants as entry
use Rattle.procedure.specs.Listing.{OneOf}
use Rattle.procedure.specs.Entry.{Entry, kind_of, left_of, record_of}
use Rattle.procedure.proofs.Empties.{null_of_part}
use Rattle.procedure.proofs.Nodes.{one_of, one_ordered}
use Rattle.procedure.proofs.Standing.{Pair, at_leaf, at_choice, at_sequence, last_order, left_lower}
use Rattle.record.specs.Put.{put_at, puts}
use Rattle.sets.proofs.Tables.{set_of_part}
use Rattle.write.specs.declared.lay.Places.{Places}
use Rattle.write.specs.declared.lay.Source.{Source}
use Rattle.write.specs.Lay.{Division, Lays, LaysAt, NextIn, Ready, Reported, into, never, count_of, node_of, run_of}
use Rattle.write.proofs.Lays.{Unbegun, choice_left, choice_right, lays_event, lays_nothing, lays_never, onto, sequence_both, sequence_never}

-- ---- the code at a place

pub next_there : (codes : Codes) (run : List ℕ) (at : ℕ) → NextIn codes run at → drop at run ≡ get_or run at 0 ∷ drop (at + 1) run
next_there codes run at n = drop-cons run at 0 n.0 ∙ ap (λ (k : ℕ). get_or run at 0 ∷ drop k run) (sym (add-one at))

unbegun_at : (codes : Codes) (e : Expr) (run : List ℕ) (at : ℕ) → ((c : ℕ) → First e c → Contains codes c) → ¬ NextIn codes run at → Unbegun e (drop at run)
unbegun_at codes e [] zero f n = tt
unbegun_at codes e [] (suc at) f n = tt
unbegun_at codes e (c ∷ run) zero f n = λ h. n (omega arith, f c h)
unbegun_at codes e (c ∷ run) (suc at) f n = unbegun_at codes e run at f (λ m. n (omega (arith, m.0), m.1))

-- ---- items put one after the other

pub puts-both : (x y : List Item) (space : List ℕ) (to : ℕ)
    → puts space to (map item_number (x ++ y)) ≡ puts (puts space to (map item_number x)) (to + length x) (map item_number y)
puts-both [] y space to = let e : to ≡ to + 0 = omega arith in ap (λ (k : ℕ). puts space k (map item_number y)) e
puts-both (a ∷ x) y space to =
    let e : to + 1 + length x ≡ to + suc (length x) = omega arith in
    puts-both x y (put_at space to (item_number a)) (to + 1)
    ∙ ap (λ (k : ℕ). puts (puts (put_at space to (item_number a)) (to + 1) (map item_number x)) k (map item_number y)) e

reported_onto : (run space mid after : List ℕ) (to t : ℕ) (x : List Item) (q : Division) (r : Option Places) → t ≡ to + length x
    → mid ≡ puts space to (map item_number x) → Reported run mid t q r after → Reported run space to (onto x q) r after
reported_onto run space mid after to t x (into y v) (Some p) e m told = (
  told.0,
  told.1 ∙ omega (arith, length-append x y),
  told.2 ∙ (λ i. puts (m i) (e i) (map item_number y)) ∙ sym (puts-both x y space to),
)
reported_onto run space mid after to t x (into y v) None e m told = told
reported_onto run space mid after to t x never (Some p) e m told = told
reported_onto run space mid after to t x never None e m told = tt

-- ---- places

-- past an event and its item, and past an item without an event
abbrev pub past_event : Places → Places
past_event at = record { event = at.event + 1; item = at.item + 1 }

abbrev pub past_mark : Places → Places
past_mark at = record { event = at.event; item = at.item + 1 }

-- ---- what is known of a node

-- as the code holds it
abbrev pub entry_of : Source → ℕ → Entry
entry_of a i = get_or a.procedure.now.nodes i entry.Empty

module _ {a : Source} (ready : Ready a) {i : ℕ} (below : i < count_of a) where
  one_here : OneOf a.procedure.now.nodes i
  one_here = one_of ready.lists i below

  pub null_here : (s : ℕ) (e : Expr) → Stands (node_of a) s e → root s e ≡ i → get_or a.procedure.now.nulls i false ≡ nullable e
  null_here s e st h =
      subst (λ (j : ℕ). get_or a.procedure.now.nulls j false ≡ nullable e) h
      (null_of_part (node_of a) a.procedure.now.nulls (count_of a) s e ready.tells_nulls st (omega arith))

  pub first_here : (s : ℕ) (e : Expr) → Stands (node_of a) s e → root s e ≡ i → (c : ℕ) → Contains (get_or a.firsts.now i no_codes) c ↔ First e c
  first_here s e = set_of_part First (node_of a) a.firsts.now (count_of a) i s e ready.tells_sets below

  -- ---- its children stand below it

  -- a node that is no leaf is not the first
  pub some_below : 2 ≤ kind_of (node_of a i) → 1 ≤ i
  some_below k = (last_order (node_of a) i _ refl k (one_ordered i one_here)).1

  kind_at : (m : Entry) → entry_of a i ≡ m → kind_of (record_of m) ≡ kind_of (node_of a i)
  kind_at m told = sym (ap (λ (n : Entry). kind_of (record_of n)) told)

  left_at : (m : Entry) → entry_of a i ≡ m → left_of (record_of m) ≡ left_of (node_of a i)
  left_at m told = sym (ap (λ (n : Entry). left_of (record_of n)) told)

  module _ {left right : ℕ} where
    pub choice_below : entry_of a i ≡ entry.Choice left right → left < i
    choice_below told = left_lower (node_of a) i 2 left (kind_at _ told) (left_at _ told) (omega arith) (λ n. absurd (omega arith)) (one_ordered i one_here)

    pub repeat_below : {body : ℕ} → entry_of a i ≡ entry.Repeat body left right → 1 ≤ i
    repeat_below told = some_below (omega (arith, kind_at _ told))

    pub sequence_below : entry_of a i ≡ entry.Sequence left right → left < i
    sequence_below told = left_lower (node_of a) i 3 left (kind_at _ told) (left_at _ told) (omega arith) (λ n. absurd (omega arith)) (one_ordered i one_here)

-- ---- what each kind of node lays

module _ {a : Source} (ready : Ready a) {i : ℕ} (below : i < count_of a) (space : List ℕ) (at : Places) where
  abbrev run : List ℕ
  run = run_of a

  abbrev g : ℕ → Node
  g = node_of a

  abbrev first_of : ℕ → Codes
  first_of j = get_or a.firsts.now j no_codes

  -- a part that is passed by
  pub pass_by : ¬ NextIn (first_of i) run at.event → LaysAt a space i at (then_some (get_or a.procedure.now.nulls i false) at) space
  pass_by out = record {
    lays = λ s e st h free.
        go s e (get_or a.procedure.now.nulls i false) (null_here ready below s e st h)
        (unbegun_at (first_of i) e run at.event (λ c. (first_here ready below s e st h c).1) out);
  }
    where
      go : (s : ℕ) (e : Expr) (null : Bool) → null ≡ nullable e → Unbegun e (drop at.event run)
          → (q : Division) × Lays (Reading s e) e (drop at.event run) q × Reported run space at.item q (then_some null at) space
      go s e true h o = (into [] (drop at.event run), lays_nothing s e (drop at.event run) o (sym h), (refl, omega arith, refl))
      go s e false h o = (never, lays_never s e (drop at.event run) o (λ q. false≢true (h ∙ q)), tt)

  -- the next code is in first of the part
  module _ (next : NextIn (first_of i) run at.event) where
    abbrev code : ℕ
    code = get_or run at.event 0

    abbrev rest : List ℕ
    rest = drop (at.event + 1) run

    there : drop at.event run ≡ code ∷ rest
    there = next_there (first_of i) run at.event next

    -- a leaf
    pub leaf_lays : kind_of (g i) < 2
        → LaysAt a space i at (Some (past_event at)) (put_at space at.item i)
    leaf_lays k = record { lays = λ s e st h free. go s e st h ((first_here ready below s e st h code).0 next.1) }
      where
        go : (s : ℕ) (e : Expr) → Stands g s e → root s e ≡ i → First e code
            → (q : Division) × Lays (Reading s e) e (drop at.event run) q
            × Reported run space at.item q (Some (past_event at)) (put_at space at.item i)
        go s =
            at_leaf g s i _ refl
            (λ e. First e code
            → (q : Division) × Lays (Reading s e) e (drop at.event run) q
            × Reported run space at.item q (Some (past_event at)) (put_at space at.item i)) k
            (λ same z f. absurd f)
            (λ c same z kept f. (
              into (place s c ∷ []) rest,
              subst (λ (w : List ℕ). Lays (Reading s (event c)) (event c) w (into (place s c ∷ []) rest)) (sym there) (lays_event s c code rest f),
              (refl, refl, ap (put_at space at.item) (same ∙ omega arith)),
            ))

    -- a choice
    module _ {left right : ℕ} (told : entry_of a i ≡ entry.Choice left right) (r : Option Places) (after : List ℕ) where
      -- what holds of the choice that stands here
      choice_here : (s : ℕ) (C : Expr → Type 0) → ((a b : Expr) → Pair g s i left a b → C (choice a b))
          → (e : Expr) → Stands g s e → root s e ≡ i → C e
      choice_here s C = at_choice g s i 2 (kind_at ready below _ told) C left (left_at ready below _ told) refl

      left_first : (s : ℕ) (x : Expr) → Stands g s x → root s x ≡ left → Contains (first_of left) code ↔ First x code
      left_first s x st h = first_here ready (omega (arith, choice_below ready below told)) s x st h code

      pub choice_goes_left : NextIn (first_of left) run at.event → LaysAt a space left at r after
          → LaysAt a space i at r after
      choice_goes_left here laid = record {
        lays = λ s.
            choice_here s (λ e. Free e → (q : Division) × Lays (Reading s e) e (drop at.event run) q × Reported run space at.item q r after)
            (λ x y t free.
            let h = laid.lays s x t.first t.first_at free.0 in (
              h.0,
              subst (λ (w : List ℕ). Lays (Reading s (choice x y)) (choice x y) w h.0) (sym there)
                  (choice_left s x y code rest h.0 free ((left_first s x t.first t.first_at).0 here.1)
                  (subst (λ (w : List ℕ). Lays (Reading s x) x w h.0) there h.1)),
              h.2,
            ));
      }

      pub choice_goes_right : ¬ NextIn (first_of left) run at.event → LaysAt a space (i - 1) at r after
          → LaysAt a space i at r after
      choice_goes_right out laid = record {
        lays = λ s e st h free.
            choice_here s (λ e. First e code → Free e → (q : Division) × Lays (Reading s e) e (drop at.event run) q × Reported run space at.item q r after)
            (λ x y t whole free.
            let h = laid.lays (s + size x) y t.second t.second_at free.1 in
            let other : ¬ First x code = λ z. out (next.0, (left_first s x t.first t.first_at).1 z) in
            let there_right : First y code = ⊎_elim (λ z. absurd (other z)) (λ z. z) whole in (
              h.0,
              subst (λ (w : List ℕ). Lays (Reading s (choice x y)) (choice x y) w h.0) (sym there)
                  (choice_right s x y code rest h.0 there_right other (subst (λ (w : List ℕ). Lays (Reading (s + size x) y) y w h.0) there h.1)),
              h.2,
            ))
            e st h ((first_here ready below s e st h code).0 next.1) free;
      }

  -- a sequence
  module _ {left right : ℕ} (told : entry_of a i ≡ entry.Sequence left right) (mid : List ℕ) where
    -- what holds of the sequence that stands here
    sequence_here : (s : ℕ) (C : Expr → Type 0) → ((a b : Expr) → Pair g s i left a b → C (sequence a b))
        → (e : Expr) → Stands g s e → root s e ≡ i → C e
    sequence_here s C =
        at_sequence g s i 3 (kind_at ready below _ told) C left (left_at ready below _ told) (omega arith) (λ n. absurd (omega arith)) (λ n. absurd (omega arith))

    pub sequence_goes : {to : Places} {r : Option Places} {after : List ℕ} → LaysAt a space left at (Some to) mid
        → LaysAt a mid (i - 1) to r after → LaysAt a space i at r after
    sequence_goes {to} {r} {after} first second = record {
      lays = λ s.
          sequence_here s (λ e. Free e → (q : Division) × Lays (Reading s e) e (drop at.event run) q × Reported run space at.item q r after)
          (λ x y t free.
          let h = first.lays s x t.first t.first_at free.0 in
          let m = second.lays (s + size x) y t.second t.second_at free.1 in
          both s x y free h.0 h.1 h.2 m.0 m.1 m.2);
    }
      where
        both : (s : ℕ) (x y : Expr) → Free (sequence x y) → (h : Division) → Lays (Reading s x) x (drop at.event run) h
            → Reported run space at.item h (Some to) mid
            → (m : Division) → Lays (Reading (s + size x) y) y (drop to.event run) m → Reported run mid to.item m r after
            → (q : Division) × Lays (Reading s (sequence x y)) (sequence x y) (drop at.event run) q × Reported run space at.item q r after
        both s x y free (into z v) lays here m after_left put = (
          onto z m,
          sequence_both s x y free (drop at.event run) v z m lays (subst (λ (w : List ℕ). Lays (Reading (s + size x) y) y w m) (sym here.0) after_left),
          reported_onto run space mid after at.item to.item z m r here.1 here.2 put,
        )
        both s x y free never lays here m after_left put = absurd here

    pub sequence_unlaid : LaysAt a space left at None mid → LaysAt a space i at None mid
    sequence_unlaid first = record {
      lays = λ s.
          sequence_here s (λ e. Free e → (q : Division) × Lays (Reading s e) e (drop at.event run) q × Reported run space at.item q None mid)
          (λ x y t free. let h = first.lays s x t.first t.first_at free.0 in none s x y free h.0 h.1 h.2);
    }
      where
        none : (s : ℕ) (x y : Expr) → Free (sequence x y) → (h : Division) → Lays (Reading s x) x (drop at.event run) h
            → Reported run space at.item h None mid
            → (q : Division) × Lays (Reading s (sequence x y)) (sequence x y) (drop at.event run) q × Reported run space at.item q None mid
        none s x y free (into z v) lays here = absurd here
        none s x y free never lays here = (never, sequence_never s x y free (drop at.event run) lays, tt)
