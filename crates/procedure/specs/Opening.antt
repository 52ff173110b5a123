-- What reading a file gives: the procedure that it lists, or the refusal. A model of our code, and no promise: the refusals are those
-- of the meaning.
use Rattle.std.specs.Prelude.{◌≡◌, Bool, false, List, ℕ, ◌-◌, get_or, Result, Ok, Err}
use Rattle.meaning.specs.declared.Refusal.{Refusal}
use Rattle.meaning.specs.Expr.{Expr}
use Rattle.meaning.specs.File.{Holds, Refused}
use Rattle.meaning.specs.Node.{bound}
use Rattle.meaning.specs.Normal.{low}
use Rattle.procedure.specs.declared.Procedure.{Procedure}
use Rattle.procedure.specs.declared.bounds.Bounds.{Bounds}
use Rattle.procedure.specs.Bounds.{Normal}
use Rattle.procedure.specs.Entry.{Nodes, held, kind_of, lower_of, upper_of}
use Rattle.procedure.specs.Listing.{Tables}

-- the file holds an expression of n nodes, of which r are repeats, and the tables have it
pub record Filled (f : List ℕ) (nodes : Nodes) (starts : List ℕ) (nulls : List Bool) (repeats : List ℕ) (n r : ℕ) : Type 0 where
  pub expr : Expr
  pub holds : Holds f expr
  pub tables : Tables nodes starts nulls repeats n r expr

-- the procedure is the expression
abbrev pub IsOf : Procedure → Expr → Type 0
IsOf p e = Tables p.nodes p.starts p.nulls p.repeats p.count p.repeat_count e

-- the procedure is that of the file, or the file is refused
abbrev pub Opens : List ℕ → Procedure → Result Unit Refusal → Type 0
Opens f p (Ok _) = Filled f p.nodes p.starts p.nulls p.repeats p.count p.repeat_count
Opens f p (Err r) = Refused f r

-- node i of the procedure is a repeat, and these are its bounds
pub record BoundsAt (p : Procedure) (i : ℕ) (b : Bounds) : Type 0 where
  pub repeats : kind_of (held p.nodes i) ≡ 4
  pub normal : Normal (low (get_or p.nulls (i - 1) false) (lower_of (held p.nodes i))) (bound (upper_of (held p.nodes i))) b
