-- From what reading a file gave and what was found in it to its admission or its refusal. Assumes nothing.
use mathlib.Core.List.{List}
use mathlib.Core.Logic.Iff
use Prim.Native.Nat.{ℕ}
use Rattle.std.specs.Prelude.{Some, None, Result, Ok, Err}
use Rattle.codes.specs.Codes.{Codes}
use Rattle.meaning.specs.Conflict.{ConflictAt, kind_number}
use Rattle.meaning.specs.declared.Refusal.{Refusal}
use Rattle.meaning.specs.Expr.{Expr}
use Rattle.meaning.specs.File.{Barred, malformed, conflicting}
use Rattle.meaning.specs.Promises.{Judges}
use Rattle.meaning.specs.Sets.{First}
use Rattle.meaning.proofs.Determinism.Diverge.{strong_iff_no_conflict}
use Rattle.meaning.proofs.File.Files.{holds_bounded}
use Rattle.meaning.proofs.General.Properties.{count_same, least_same}
use Rattle.procedure.specs.declared.Procedure.{Procedure}
use Rattle.procedure.specs.Entry.{held}
use Rattle.procedure.specs.Listing.{Listing}
use Rattle.procedure.specs.Opening.{Filled}
use Rattle.sets.specs.Lowest.{Clash, Lowest}
use Rattle.sets.specs.Tables.{TellsSets}
use Rattle.judge.specs.Admission.{Admits, Bars, Entered, tells}

module _ (f : List ℕ) (p : Procedure) (filled : Filled f p.nodes p.starts p.nulls p.repeats p.count p.repeat_count) where
  -- no conflict was found
  pub entered : (firsts : List Codes) → TellsSets First (held p.nodes) firsts p.count → ((e : Expr) → Listing p.nodes p.count e → Lowest (ConflictAt 0 e) None)
      → Entered f p firsts
  entered firsts begun free = record {
    filled = filled;
    admitted = record {
      holds = filled.holds;
      strong = (strong_iff_no_conflict filled.expr (holds_bounded filled.holds)).1 (free filled.expr filled.tables.listing);
    };
    beginnings = begun;
  }

  -- and with one the lowest is named, with all the codes that it shares
  pub barred : (x : Clash) (r : Refusal) → ((e : Expr) → Listing p.nodes p.count e → Lowest (ConflictAt 0 e) (Some x)) → Bars x r → Barred f r
  barred x r found (tells words n set count) =
      let lowest = found filled.expr filled.tables.listing in
      let there = (lowest.shares x.code).0 lowest.least.holds in
      conflicting filled.expr x.node x.kind x.code words n filled.holds
      (record {
        node = record { holds = (kind_number x.kind, x.code, there); lowest = λ i w. lowest.lowest_node i w.0 w.1 w.2 };
        kind = record { holds = (x.code, there); lowest = λ k w. lowest.lowest_kind k w.0 w.1 };
        code = least_same lowest.shares lowest.least;
      })
      (record {
        set = record { low_word = set.low_word; high_word = set.high_word; codes = λ c. Iff.trans (set.codes c) (lowest.shares c) };
        count = count_same (λ c l. Iff.symm (set.codes c)) count;
      })

-- ---- the answer of Judge

pub judged : (f : List ℕ) (p : Procedure) (firsts : List Codes) (a : Result Unit Refusal) → Admits f p firsts a → Judges f a
judged f p firsts (Ok _) told = Judges.admitted told.filled.expr told.admitted
judged f p firsts (Err r) told = Judges.refused r told

-- for the answers of `admit` that refuse, and for that of `judge`
pub ruleset answered = (malformed, barred, judged)
