-- From what a walk over the root takes to the answer of Check. Assumes nothing.
use mathlib.Core.Path.{◌≡◌, sym, ap, ◌∙◌}
use mathlib.Core.Bool.{Bool, true, false, false≢true}
use mathlib.Core.List.{List, [], ◌++◌, map, append-nil}
use Prim.Native.Nat.{ℕ, ◌-◌, ◌/◌, ◌%◌, ◌≤◌, ◌<◌}
use native.Mathlib.Omega.{arith}
use borrow.Author.Tests.{eq-eqb, eqb-true, ne_eqb}
use lib.ListN.{length, drop, get_or, length-drop}
use lib.Seq.{drop-length}
use Rattle.meaning.specs.Bytes.{in_twos}
use Rattle.meaning.specs.Expr.{Expr, size}
use Rattle.meaning.specs.Promises.{Checks}
use Rattle.meaning.specs.Reading.{Item, Reading}
use Rattle.meaning.specs.Record.{item_number, record_bytes}
use Rattle.meaning.proofs.Expressions.Records.{names_narrow, reading_names}
use Rattle.procedure.specs.Entry.{Nodes, held}
use Rattle.procedure.specs.Listing.{Listing}
use Rattle.procedure.specs.Opening.{Filled}
use Rattle.procedure.proofs.Nodes.{listing_root}
use Rattle.std.specs.Prelude.{Option, Some, None, Ok, nat_eq}
use Rattle.std.specs.Option.{option_eq}
use Rattle.record.specs.Walk.{items_in, from, nowhere, remainder_of, EatsAt, Onward, RecordOf}
use Rattle.meaning.proofs.General.Twos.{twos_length}
use Rattle.record.proofs.Bytes.{items_length, items_of_twos, twos_of_items}

-- ---- the numbers of a reading's record

-- the bytes of a reading's record hold the numbers of its items
numbers-back : (e : Expr) → size e ≤ 512 → (x : List Item) → Reading 0 e x → (b : List ℕ) → b ≡ record_bytes x → items_in b ≡ map item_number x ++ []
numbers-back e l x p b h =
    ap items_in h ∙ items_of_twos (map item_number x) (names_narrow e l x (reading_names 0 e x p)) ∙ sym (append-nil (map item_number x))

-- ---- what the walk says of the record

module _ (nodes : Nodes) (n : ℕ) (b : List ℕ) where
  pub odd_no : ¬ (length b % 2 ≡ 0) → RecordOf nodes n b (nat_eq (length b % 2) 0)
  unfolding RecordOf
  odd_no h =
      rw (ne_eqb (length b % 2) 0 h)
      (λ e l y.
      let same : length b ≡ length (record_bytes y.0) = ap length y.2 in
      h (omega (arith, twos_length (map item_number y.0))))

  -- what the walk over the root leaves, it leaves of every record
  leaves : (r : Option ℕ) → EatsAt (held nodes) (items_in b) 0 (n - 1) 0 r → (e : Expr) → Listing nodes n e → (x : List Item) → Reading 0 e x
      → b ≡ record_bytes x → remainder_of (items_in b) r ≡ from []
  unfolding EatsAt
  leaves r a e l x p same =
      (a e l.stands (listing_root l)).only x [] p (numbers-back e (omega (arith, l.sized, l.few)) x p b same) tt

  stuck_no : EatsAt (held nodes) (items_in b) 0 (n - 1) 0 None → RecordOf nodes n b false
  unfolding RecordOf
  stuck_no a = λ e l y.
      let same : nowhere ≡ from [] = leaves None a e l y.0 y.1 y.2 in
      let c : ◌≡◌ {A = ℕ} 0 1 = cc in
      omega arith

  more_no : (t : ℕ) → t ≤ length (items_in b) → ¬ (t ≡ length b / 2) → EatsAt (held nodes) (items_in b) 0 (n - 1) 0 (Some t) → RecordOf nodes n b false
  unfolding RecordOf
  more_no t low h a = λ e l y.
      let same : from (drop t (items_in b)) ≡ from [] = leaves (Some t) a e l y.0 y.1 y.2 in
      let none : drop t (items_in b) ≡ [] = cc in
      let zero : length (drop t (items_in b)) ≡ 0 = ap length none in
      h (omega (arith, length-drop t (items_in b), items_length b))

  all_yes : (t : ℕ) → t ≡ length b / 2 → length b % 2 ≡ 0 → ((k : ℕ) → get_or b k 0 < 256) → EatsAt (held nodes) (items_in b) 0 (n - 1) 0 (Some t)
      → RecordOf nodes n b true
  unfolding RecordOf EatsAt
  all_yes t h even bytes a = λ e l.
      let eaten = (a e l.stands (listing_root l)).eaten in
      let x = eaten.0 in
      let none : drop t (items_in b) ≡ [] = ap (λ (k : ℕ). drop k (items_in b)) (h ∙ sym (items_length b)) ∙ drop-length (items_in b) in
      let numbers : items_in b ≡ map item_number x = eaten.2 ∙ ap (λ (v : List ℕ). map item_number x ++ v) none ∙ append-nil (map item_number x) in
      (x, eaten.1, sym (twos_of_items b even bytes) ∙ ap in_twos numbers)

  -- the walk over an even number of bytes, and whether it ends with them
  pub walked : (r : Option ℕ) (found : Bool) → length b % 2 ≡ 0 → ((k : ℕ) → get_or b k 0 < 256) → Onward (items_in b) 0 r
      → EatsAt (held nodes) (items_in b) 0 (n - 1) 0 r → found ≡ option_eq nat_eq r (Some (length b / 2)) → RecordOf nodes n b found
  walked (Some t) true even bytes on a told = all_yes t (eqb-true t (length b / 2) (sym told)) even bytes a
  walked (Some t) false even bytes on a told = more_no t on.1 (λ q. false≢true (told ∙ eq-eqb t (length b / 2) q)) a
  walked None true even bytes on a told = absurd (false≢true (sym told))
  walked None false even bytes on a told = stuck_no a

-- ---- the answer

-- the file was read as n nodes
pub checked : {f : List ℕ} {nodes : Nodes} {starts : List ℕ} {nulls : List Bool} {repeats : List ℕ} {n r : ℕ} → Filled f nodes starts nulls repeats n r
    → (b : List ℕ) (found : Bool) → RecordOf nodes n b found → Checks f b (Ok found)
unfolding RecordOf
checked filled b true h = let y = h filled.expr filled.tables.listing in Checks.yes filled.expr y.0 filled.holds y.1 y.2
checked filled b false h = let y = h filled.expr filled.tables.listing in Checks.no filled.expr filled.holds (λ x p e. y (x, p, e))
