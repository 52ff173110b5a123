-- What admitting a file gives: its procedure with first of each part, or the refusal. A model of our code, and no promise: the refusals
-- are those of the meaning.
use Rattle.std.specs.Prelude.{List, ℕ, Result, Ok, Err}
use Rattle.codes.specs.Codes.{Codes, Contains, limit}
use Rattle.meaning.specs.Codes.{SetInWords}
use Rattle.meaning.specs.declared.Refusal.{Refusal}
use Rattle.meaning.specs.declared.Refusal.TheVariants as refusal
use Rattle.meaning.specs.declared.Words.{Words}
use Rattle.meaning.specs.File.{Admitted, Barred}
use Rattle.meaning.specs.Properties.{CountBelow}
use Rattle.meaning.specs.Sets.{First}
use Rattle.procedure.specs.declared.Procedure.{Procedure}
use Rattle.procedure.specs.Entry.{held}
use Rattle.procedure.specs.Opening.{Filled}
use Rattle.sets.specs.Lowest.{Clash}
use Rattle.sets.specs.Tables.{TellsSets}

-- the procedure is that of the admitted file, and the table has first of each of its parts
pub record Entered (f : List ℕ) (p : Procedure) (firsts : List Codes) : Type 0 where
  pub filled : Filled f p.nodes p.starts p.nulls p.repeats p.count p.repeat_count
  pub admitted : Admitted f filled.expr
  pub beginnings : TellsSets First (held p.nodes) firsts p.count

-- the file is admitted, or refused with one of 1 to 7
abbrev pub Admits : List ℕ → Procedure → List Codes → Result Unit Refusal → Type 0
Admits f p firsts (Ok _) = Entered f p firsts
Admits f p firsts (Err r) = Barred f r

-- the refusal tells of the conflict, of the codes that it shares, and of how many they are
pub data Bars (x : Clash) : Refusal → Type 0 where
  tells : (words : Words) (n : ℕ) → SetInWords (Contains x.shared) words.low words.high → CountBelow (Contains x.shared) limit n
      → Bars x (refusal.Conflict x.node x.kind x.code words n)
