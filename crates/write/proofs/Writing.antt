-- From an admitted file and what is laid of a run to the answer of Write. Assumes nothing.
use mathlib.Core.Path.{◌≡◌, sym, ap, subst, ◌∙◌}
use mathlib.Core.List.{List, ◌++◌, map}
use Prim.Native.Nat.{ℕ, ◌+◌, ◌-◌, ◌*◌, ◌≤◌, ◌<◌}
use native.Mathlib.Decide.{ℕ_discrete}
use native.Mathlib.Nat.{mul-le-mul}
use native.Mathlib.Omega.{arith}
use lib.ListN.{length, drop, length-map}
use Rattle.std.specs.Prelude.{Option, Some, None, Ok, Err, ok_or}
use Rattle.meaning.specs.declared.Refusal.{Refusal}
use Rattle.meaning.specs.declared.Refusal.TheVariants.{Length, Incomplete, Room as no-space}
use Rattle.meaning.specs.Expr.{Expr, Bounded}
use Rattle.meaning.specs.File.{Admitted}
use Rattle.meaning.specs.Promises.{Writes}
use Rattle.meaning.specs.Reading.{Item, Reading, codes}
use Rattle.meaning.specs.Record.{item_number, record_bytes}
use Rattle.meaning.specs.Theory.Conflicts.{Free}
use Rattle.meaning.proofs.Determinism.Diverge.{strong_no_conflict}
use Rattle.meaning.proofs.File.Files.{holds_bounded}
use Rattle.meaning.proofs.Determinism.OneRecord.{reading_unique}
use Rattle.meaning.proofs.Determinism.Unique.{free_iff_no_conflict}
use Rattle.meaning.proofs.Expressions.WordReading.{word_iff_reading}
use Rattle.write.specs.declared.lay.Places.{Places}
use Rattle.write.specs.declared.lay.Source.{Source}
use Rattle.record.specs.Put.{puts}
use Rattle.write.specs.Lay.{Advances, LaysAt, Leeway, Lists, Ready, count_of, reach, run_of}
use Rattle.procedure.proofs.Nodes.{listing_root}
use Rattle.meaning.proofs.General.Twos.{twos_length}
use Rattle.write.proofs.Laid.{Short, laid_whole, not_laid, start}
use Rattle.record.proofs.Puts.{puts_all}
use Rattle.write.proofs.Reaches.{reach_over}

-- the length of a record, by its items
record_length : (x : List Item) → length (record_bytes x) ≡ 2 * length x
record_length x = omega (arith, twos_length (map item_number x), length-map x item_number)

-- what the walk over the whole needs: a run that is not too long
pub walk_leeway : {a : Source} → Ready a → length (run_of a) ≤ 65536 → Leeway (run_of a) (count_of a - 1) start
unfolding reach
walk_leeway {a} ready short = record {
  short = short;
  inside = omega arith;
  fits =
      let few = ready.lists.few in
      let most : 2 * (count_of a - 1) + 1 ≤ 1023 = omega arith in
      let left : length (run_of a) - 0 ≤ 65536 = omega arith in
      omega (arith, mul-le-mul most left);
}

-- an item's place doubled is a number of the machine
pub few_items : {a : Source} → Ready a → (p : Places) → length (run_of a) ≤ 65536 → Advances (run_of a) (count_of a - 1) start (Some p) → p.item ≤ 134217728
few_items {a} ready p short on = omega (arith, reach_over (run_of a) (count_of a - 1) p.event p.item, on.2, (walk_leeway ready short).fits)

-- a walk that tells of no reading is refused
pub told_incomplete : (r : Option Places) (x : Refusal) → Err x ≡ ok_or r Incomplete → x ≡ Incomplete
told_incomplete (Some p) x e = cc
told_incomplete None x e = cc

-- ---- the answer

-- the file is admitted, and the entries list its expression
module _ {f : List ℕ} (a : Source) {e : Expr} (admitted : Admitted f e) (l : Lists a e) where
  abbrev run : List ℕ
  run = run_of a

  bounded : Bounded e
  bounded = holds_bounded admitted.holds

  free : Free e
  free = (free_iff_no_conflict 0 e).1 (strong_no_conflict e bounded admitted.strong)

  pub writes_too_long : {space : List ℕ} → 65536 < length run → Writes f run space (Err Length) space
  writes_too_long h = Writes.too_long e admitted h

  module _ {none after : List ℕ} (short : length run ≤ 65536) where
    incomplete : {space : List ℕ} (r : Option Places) → LaysAt a none (count_of a - 1) start r after → Advances run (count_of a - 1) start r → Short run r
        → Writes f run space (Err Incomplete) space
    incomplete r laid on missed =
        Writes.incomplete e admitted short
        (λ w. let y = (word_iff_reading 0 e bounded run).0 w in
        not_laid a none after (count_of a - 1) e l.stands (listing_root l) free r laid on missed y.0 y.1 y.2)

    -- no reading begins the run
    pub writes_unlaid : {space : List ℕ} → LaysAt a none (count_of a - 1) start None after → Writes f run space (Err Incomplete) space
    writes_unlaid laid = incomplete None laid tt tt

    -- the run is laid up to these places
    module _ {to : Places} (laid : LaysAt a none (count_of a - 1) start (Some to) after) where
      pub writes_part : {space : List ℕ} → Advances run (count_of a - 1) start (Some to) → ¬ (to.event ≡ length run) → Writes f run space (Err Incomplete) space
      writes_part on missed = incomplete (Some to) laid on missed

      module _ (all : to.event ≡ length run) where
        reading : (x : List Item) × Reading 0 e x × (codes x ≡ run) × (to.item ≡ length x) × (after ≡ puts none 0 (map item_number x))
        reading = laid_whole a none after (count_of a - 1) e l.stands (listing_root l) free to laid all

        pub writes_no_room : {space : List ℕ} → length space < 2 * to.item → Writes f run space (Err no-space) space
        writes_no_room less =
            Writes.no_room e reading.0 admitted short reading.1 reading.2
            (omega (arith, record_length reading.0, reading.3))

        -- the second walk lays the same
        again : (space last : List ℕ) (r : Option Places) → LaysAt a space (count_of a - 1) start r last → Advances run (count_of a - 1) start r
            → last ≡ puts space 0 (map item_number reading.0)
        again space last r laid on = go r laid on
          where
            missed : (r : Option Places) → LaysAt a space (count_of a - 1) start r last → Advances run (count_of a - 1) start r → ¬ Short run r
            missed r laid on s = not_laid a space last (count_of a - 1) e l.stands (listing_root l) free r laid on s reading.0 reading.1 reading.2

            there : (b : Places) → LaysAt a space (count_of a - 1) start (Some b) last → b.event ≡ length run → last ≡ puts space 0 (map item_number reading.0)
            there b laid h =
                let y = laid_whole a space last (count_of a - 1) e l.stands (listing_root l) free b laid h in
                let same : y.0 ≡ reading.0 = reading_unique e bounded free y.0 reading.0 y.1 reading.1 (y.2 ∙ sym reading.2) in
                y.4 ∙ ap (λ (x : List Item). puts space 0 (map item_number x)) same

            by_end : (b : Places) → LaysAt a space (count_of a - 1) start (Some b) last → Advances run (count_of a - 1) start (Some b) → Dec (b.event ≡ length run)
                → last ≡ puts space 0 (map item_number reading.0)
            by_end b laid on (yes h) = there b laid h
            by_end b laid on (no h) = absurd (missed (Some b) laid on h)

            go : (r : Option Places) → LaysAt a space (count_of a - 1) start r last → Advances run (count_of a - 1) start r → last ≡ puts space 0 (map item_number reading.0)
            go (Some b) laid on = by_end b laid on (ℕ_discrete b.event (length run))
            go None laid on = absurd (missed None laid on tt)

        pub writes_all : {space last : List ℕ} (r : Option Places) → 2 * to.item ≤ length space → LaysAt a space (count_of a - 1) start r last
            → Advances run (count_of a - 1) start r → Writes f run space (Ok (2 * to.item)) last
        writes_all {space} {last} r enough laid on =
            let x = reading.0 in
            let long : length (record_bytes x) ≡ 2 * to.item = omega (arith, record_length x, reading.3) in
            let w = map item_number x in
            let bytes : 2 * length w ≡ length (record_bytes x) = sym (twos_length w) in
            let stands : last ≡ record_bytes x ++ drop (length (record_bytes x)) space =
            again space last r laid on ∙ puts_all space w (omega arith) ∙ ap (λ (k : ℕ). record_bytes x ++ drop k space) bytes in
            subst (λ (k : ℕ). Writes f run space (Ok k) last) long
            (subst (Writes f run space (Ok (length (record_bytes x)))) (sym stands) (Writes.written e x admitted short reading.1 reading.2 (omega arith)))
