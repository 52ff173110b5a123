-- A code of after forks a reading: it may stop after some event, and go on from there with the code.
use mathlib.Core.Path.{subst}
use mathlib.Core.List.{List, ◌∷◌, ◌++◌}
use Prim.Native.Nat.{ℕ, ◌+◌, ◌≤◌, ◌<◌}
use native.Mathlib.Omega.{arith}
use lib.ListN.{length}
use Rattle.meaning.specs.Expr.{Expr, size, Bounded}
use Rattle.meaning.specs.Reading.{Item, place, codes, Reading}
use Rattle.meaning.specs.Sets.{After}
use Rattle.meaning.specs.Theory.Places.{node_of, closes}
use Rattle.meaning.proofs.Places.Marks.{Marks, node_below, closes_marks, step_marks}
use Rattle.meaning.proofs.Places.Steps.{ends, steps, goes_rest, step_sound}
use Rattle.meaning.proofs.Places.Before.{before_event, before_rest_reading, some_before, some_rest}
use Rattle.meaning.proofs.Determinism.FirstAfter.{after_ends_and_goes}

-- a reading that may stop after the items u, and one that goes on from there with a code of after
pub record Fork (s : ℕ) (e : Expr) (c : ℕ) : Type 0 where
  pub here : List Item
  pub begun : 1 ≤ length (codes here)
  pub closed : List Item
  pub stops : Reading s e (here ++ closed)
  pub closed_marks : Marks (s + size e) closed
  pub marks : List Item
  pub node : ℕ
  pub after : List Item
  pub goes : Reading s e (here ++ (marks ++ (place node c ∷ after)))
  pub marks_marks : Marks (s + size e) marks
  pub below : node < s + size e

-- every code of after has one
pub after_forks : (s : ℕ) (e : Expr) → Bounded e → (c : ℕ) → After e c → Fork s e c
after_forks s e h c a =
    let t = after_ends_and_goes s e h c a in
    let p = t.here in
    let q = t.next in
    let u = some_before s e h p t.sound in
    let y = some_rest s e h q (step_sound s e h p q t.marks t.sound t.step) in
    let on = before_rest_reading s e p _ _ u.1 (goes_rest s e h p t.sound _ (steps q t.marks y.0 t.step y.1)) in
    record {
      here = u.0;
      begun = before_event s e p u.0 u.1;
      closed = closes s e p;
      stops = before_rest_reading s e p _ _ u.1 (goes_rest s e h p t.sound _ (ends t.can_end));
      closed_marks = closes_marks (s + size e) s e (omega arith) p;
      marks = t.marks;
      node = node_of s e q;
      after = y.0;
      goes = subst (λ d. Reading s e (u.0 ++ (t.marks ++ (place (node_of s e q) d ∷ y.0)))) t.code on;
      marks_marks = step_marks (s + size e) s e (omega arith) p q t.marks t.step;
      below = node_below s e q;
    }
