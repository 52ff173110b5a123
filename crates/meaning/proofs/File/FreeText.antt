-- The free text is not judged: a file and the same with other text are refused alike and hold the same expression. So it is for n from
-- 1 to 512; for another n the length of the whole, and with it the text's, decides whether 1 is given or 3. Assumes nothing.
use mathlib.Core.Path.{◌≡◌, sym, ap, ap₂, subst₂, ◌∙◌, fun_ext}
use mathlib.Core.Logic.{◌↔◌}
use mathlib.Core.List.{List, ◌++◌}
use Prim.Native.Nat.{ℕ, suc, ◌+◌, ◌-◌, ◌*◌, ◌≤◌, ◌<◌}
use native.Mathlib.Omega.{arith}
use lib.ListN.{length, take, drop, length-append}
use lib.Seq.{get_or-append-add, drop-append-add}
use Rattle.meaning.specs.declared.Refusal.{Refusal}
use Rattle.meaning.specs.Bytes.{byte_at, two_at, four_at}
use Rattle.meaning.specs.Expr.{Expr, size}
use Rattle.meaning.specs.File.{letters, count, edition, distance, span, record_at, node_at, Sized, Lettered, Measured, Framed, WellFormed, Refused, by_size, by_letters, by_measures, by_record, by_order, by_root, by_repeats, Holds, SameButText, same_but_text}
use Rattle.meaning.specs.Node.{Node, node, InTable, InOrder, Stands, repeats_below}

-- ---- what is read past the text

past_one : (text rest : List ℕ) (j k : ℕ) → j ≡ length text + k → byte_at (text ++ rest) j ≡ byte_at rest k
past_one text rest j k e = ap (byte_at (text ++ rest)) e ∙ get_or-append-add text rest k 0

past_two : (text rest : List ℕ) (j k : ℕ) → j ≡ length text + k → two_at (text ++ rest) j ≡ two_at rest k
past_two text rest j k e =
    ap₂ (λ (a b : ℕ). a + 256 * b) (past_one text rest j k e) (past_one text rest (j + 1) (k + 1) (omega arith))

past_four : (text rest : List ℕ) (j k : ℕ) → j ≡ length text + k → four_at (text ++ rest) j ≡ four_at rest k
past_four text rest j k e =
    ap₂ (λ (a b : ℕ). a + 65536 * b) (past_two text rest j k e) (past_two text rest (j + 2) (k + 2) (omega arith))

past_record : (text rest : List ℕ) (j k : ℕ) → j ≡ length text + k → record_at (text ++ rest) j ≡ record_at rest k
past_record text rest j k e =
    let kind = past_one text rest j k e in
    let code = past_one text rest (j + 1) (k + 1) (omega arith) in
    let x = past_two text rest (j + 2) (k + 2) (omega arith) in
    let y = past_two text rest (j + 4) (k + 4) (omega arith) in
    let z = past_two text rest (j + 6) (k + 6) (omega arith) in
    λ i. node (kind i) (code i) (x i) (y i) (z i)

-- ---- a file as its tests see it

-- all that the tests read of a file: two such files are told apart by none of them
record TestedAlike (f g : List ℕ) : Type 0 where
  sized : Sized f × Sized g
  lettered : letters f ≡ letters g
  edited : edition f ≡ edition g
  counted : count f ≡ count g
  distant : distance f ≡ distance g
  fits : (span (count f) ≤ length f) × (length f - span (count f) ≤ 4096)
  fits_too : (span (count g) ≤ length g) × (length g - span (count g) ≤ 4096)
  nodes : node_at f ≡ node_at g

back : {f g : List ℕ} → TestedAlike f g → TestedAlike g f
back a = record {
  sized = (a.sized.1, a.sized.0);
  lettered = sym a.lettered;
  edited = sym a.edited;
  counted = sym a.counted;
  distant = sym a.distant;
  fits = a.fits_too;
  fits_too = a.fits;
  nodes = sym a.nodes;
}

module _ (text rest : List ℕ) (short : length text ≤ 4096) (whole : length rest ≡ span (count rest)) where
  at_end : (k : ℕ) → k ≤ 12 → length (text ++ rest) - k ≡ length text + (length rest - k)
  at_end k l = rw length-append (omega arith)

  text_count : count (text ++ rest) ≡ count rest
  text_count = past_two text rest (length (text ++ rest) - 8) (length rest - 8) (at_end 8 (omega arith))

  text_letters : letters (text ++ rest) ≡ letters rest
  text_letters = ap (take 4) (ap (λ (n : ℕ). drop n (text ++ rest)) (at_end 12 (omega arith)) ∙ drop-append-add text rest (length rest - 12))

  text_edition : edition (text ++ rest) ≡ edition rest
  text_edition = past_two text rest (length (text ++ rest) - 6) (length rest - 6) (at_end 6 (omega arith))

  text_distance : distance (text ++ rest) ≡ distance rest
  text_distance = past_four text rest (length (text ++ rest) - 4) (length rest - 4) (at_end 4 (omega arith))

  text_start : length (text ++ rest) - span (count (text ++ rest)) ≡ length text
  text_start = omega (arith, text_count, length-append text rest)

  text_nodes : node_at (text ++ rest) ≡ (λ i. record_at rest (8 * i))
  text_nodes = fun_ext (λ i. past_record text rest (length (text ++ rest) - span (count (text ++ rest)) + 8 * i) (8 * i) (omega (arith, text_start)))

-- ---- files that are alike are refused alike, and list the same expressions

module _ (f g : List ℕ) (a : TestedAlike f g) where
  -- what is said of the nodes and their number
  moved : (P : (ℕ → Node) → ℕ → Type 0) → P (node_at f) (count f) → P (node_at g) (count g)
  moved P = subst₂ P a.nodes a.counted

  lettered_too : Lettered f → Lettered g
  lettered_too p = (sym a.lettered ∙ p.0, sym a.edited ∙ p.1)

  measured_too : Measured f → Measured g
  measured_too p = omega (arith, p, a.counted, a.distant, a.fits_too)

  framed_too : Framed f → Framed g
  framed_too p = (a.sized.1, lettered_too p.1, measured_too p.2)

  formed_too : {e : Expr} → WellFormed f e → WellFormed g e
  formed_too {e} w = record {
    framed = framed_too w.framed;
    table = moved (λ h n. (j : ℕ) → j < n → InTable (h j)) w.table;
    lists = moved (λ h n. Stands h 0 e × (size e ≡ n)) w.lists;
  }

  holds_too : {e : Expr} → Holds f e → Holds g e
  holds_too p = record { formed = formed_too p.formed; few = moved (λ h n. repeats_below h n ≤ 32) p.few }

module _ (f g : List ℕ) (a : TestedAlike f g) where
  refused_too : (r : Refusal) → Refused f r → Refused g r
  refused_too r (by_size n) = absurd (n a.sized.0)
  refused_too r (by_letters s n) = by_letters a.sized.1 (λ p. n (lettered_too g f (back a) p))
  refused_too r (by_measures s l n) = by_measures a.sized.1 (lettered_too f g a l) (λ p. n (measured_too g f (back a) p))
  refused_too r (by_record i p l t n) =
      by_record i (framed_too f g a p) (moved f g a (λ h n. i < n) l) (moved f g a (λ h n. (j : ℕ) → j < i → InTable (h j)) t)
      (moved f g a (λ h n. ¬ InTable (h i)) n)
  refused_too r (by_order i p t l o n) =
      by_order i (framed_too f g a p) (moved f g a (λ h n. (j : ℕ) → j < n → InTable (h j)) t) (moved f g a (λ h n. i < n) l)
      (moved f g a (λ h n. (j : ℕ) → j < i → InOrder h j) o) (moved f g a (λ h n. ¬ InOrder h i) n)
  refused_too r (by_root i p t o n l) =
      by_root i (framed_too f g a p) (moved f g a (λ h n. (j : ℕ) → j < n → InTable (h j)) t)
      (moved f g a (λ h n. (j : ℕ) → j < n → InOrder h j) o)
      (moved f g a (λ h n. (e : Expr) → ¬ (Stands h 0 e × (size e ≡ n))) n) (moved f g a (λ h n. suc i ≡ n) l)
  refused_too r (by_repeats e i w l m n) =
      by_repeats e i (formed_too f g a w) (moved f g a (λ h n. i < n) l) (moved f g a (λ h n. repeats_below h i ≡ 32) m)
      (moved f g a (λ h n. repeats_below h (suc i) ≡ 33) n)

-- ---- two texts

texts_alike : {f g : List ℕ} → SameButText f g → TestedAlike f g
texts_alike (same_but_text text other rest s t w least most) =
    let l = length-append text rest in
    let m = length-append other rest in
    let c = text_count text rest s w in
    let d = text_count other rest t w in
    record {
      sized = omega arith;
      lettered = text_letters text rest s w ∙ sym (text_letters other rest t w);
      edited = text_edition text rest s w ∙ sym (text_edition other rest t w);
      counted = c ∙ sym d;
      distant = text_distance text rest s w ∙ sym (text_distance other rest t w);
      fits = omega arith;
      fits_too = omega arith;
      nodes = text_nodes text rest s w ∙ sym (text_nodes other rest t w);
    }

-- the files are refused alike and hold the same: all that the promises read of a file
pub record ReadAlike (f g : List ℕ) : Type 0 where
  pub refused : (r : Refusal) → Refused f r ↔ Refused g r
  pub holds : (e : Expr) → Holds f e ↔ Holds g e

-- a file and the same with other text are read alike
pub text_read_alike : (f g : List ℕ) → SameButText f g → ReadAlike f g
text_read_alike f g t =
    let a = texts_alike t in
    record {
      refused = λ r. (refused_too f g a r, refused_too g f (back a) r);
      holds = λ e. (holds_too f g a, holds_too g f (back a));
    }
