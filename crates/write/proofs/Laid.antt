-- From what a walk lays of the whole run to the record of a reading, or that there is none. Assumes nothing.
use mathlib.Core.Path.{◌≡◌, sym, ap, ◌∙◌}
use mathlib.Core.List.{List, [], ◌++◌, map, append-nil}
use Prim.Native.Nat.{ℕ}
use native.Mathlib.Omega.{arith}
use lib.ListN.{length, drop, length-drop}
use lib.Seq.{drop-length}
use Rattle.meaning.specs.Expr.{Expr, root}
use Rattle.meaning.specs.Node.{Stands}
use Rattle.meaning.specs.Reading.{Item, Reading, codes}
use Rattle.meaning.specs.Record.{item_number}
use Rattle.meaning.specs.Theory.Conflicts.{Free}
use Rattle.std.specs.Prelude.{Option, Some, None}
use Rattle.write.specs.declared.lay.Places.{Places}
use Rattle.write.specs.declared.lay.Source.{Source}
use Rattle.record.specs.Put.{puts}
use Rattle.write.specs.Lay.{Division, into, never, Lays, Reported, LaysAt, Advances, node_of, run_of}

-- where a walk over the whole begins
abbrev pub start : Places
start = record { event = 0; item = 0 }

-- the walk does not lay the whole run
abbrev pub Short : List ℕ → Option Places → Type 0
Short run (Some p) = ¬ (p.event ≡ length run)
Short run None = Unit {0}

module _ (a : Source) (space after : List ℕ) (i : ℕ) (e : Expr) (stands : Stands (node_of a) 0 e) (at : root 0 e ≡ i) (free : Free e) where
  abbrev run : List ℕ
  run = run_of a

  -- a walk to the end lays the one reading that has the run
  pub laid_whole : (p : Places) → LaysAt a space i start (Some p) after → p.event ≡ length run
      → (x : List Item) × Reading 0 e x × (codes x ≡ run) × (p.item ≡ length x) × (after ≡ puts space 0 (map item_number x))
  laid_whole p laid whole = let h = laid.lays 0 e stands at free in go h.0 h.1 h.2
    where
      go : (q : Division) → Lays (Reading 0 e) e run q → Reported run space 0 q (Some p) after
          → (x : List Item) × Reading 0 e x × (codes x ≡ run) × (p.item ≡ length x) × (after ≡ puts space 0 (map item_number x))
      go (into x v) lays told =
          let none : v ≡ [] = told.0 ∙ ap (λ (k : ℕ). drop k run) whole ∙ drop-length run in
          (x, lays.divided.0, sym (lays.divided.1 ∙ ap (λ (u : List ℕ). codes x ++ u) none ∙ append-nil (codes x)), omega (arith, told.1), told.2)
      go never lays told = absurd told

  -- and where it does not get there, no reading has the run
  pub not_laid : (r : Option Places) → LaysAt a space i start r after → Advances run i start r → Short run r → (y : List Item) → Reading 0 e y → ¬ (codes y ≡ run)
  not_laid r laid on short y p same =
      let h = laid.lays 0 e stands at free in
      go h.0 r h.2 on short (h.1.only y [] p (sym same ∙ sym (append-nil (codes y))) tt)
    where
      go : (q : Division) (r : Option Places) → Reported run space 0 q r after → Advances run i start r → Short run r → q ≡ into y [] → ⊥
      go (into x v) (Some p) told on short e =
          let none : drop p.event run ≡ [] = sym told.0 ∙ cc in
          let n : length (drop p.event run) ≡ 0 = ap length none in
          short (omega (arith, length-drop p.event run, on.1))
      go (into x v) None told on short e = told
      go never (Some p) told on short e = told
      go never None told on short e = let c : ◌≡◌ {A = ℕ} 0 1 = cc in absurd (omega arith)
