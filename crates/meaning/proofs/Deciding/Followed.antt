-- How many events of a run are taken, and how it then stands, found by computing.
use mathlib.Core.Path.{sym, subst}
use mathlib.Core.Logic.Dec
use mathlib.Core.List.{List, [], ◌∷◌, ◌++◌, append_assoc}
use Prim.Native.Nat.{ℕ, suc, ◌≤◌}
use native.Mathlib.Omega.{arith}
use native.Mathlib.Decide.{ℕ_discrete, dec_le, dec_lt}
use lib.ListN.{length, take, drop, take-append-drop}
use lib.Seq.{take-take}
use Rattle.meaning.specs.declared.Verdict.{Verdict}
use Rattle.meaning.specs.declared.Verdict.TheVariants.{Complete, Unfinished, Broken}
use Rattle.meaning.specs.Expr.{Expr, Bounded}
use Rattle.meaning.specs.Word.{Word, Begins}
use Rattle.meaning.specs.Promises.{Takes, VerdictOf, complete, unfinished, broken}
use Rattle.meaning.specs.Theory.Spots.{start}
use Rattle.meaning.proofs.Deciding.Answer.{Answer, found, unknown, if_so, then, both, every}
use Rattle.meaning.proofs.Places.Spots.{Move, CanMove}
use Rattle.meaning.proofs.Deciding.Moves.{moves_list}
use Rattle.meaning.proofs.Deciding.Search.{word_decided, begins_decided, begins_arrives}

-- what a run that begins a word begins with begins one too
pub begins_shorter : (e : Expr) (u v : List ℕ) → Begins e (u ++ v) → Begins e u
begins_shorter e u v k = (v ++ k.0, subst (Word e) (append_assoc u v k.0) k.1)

-- so do its first events
begins_take : (e : Expr) (run : List ℕ) (m n : ℕ) → m ≤ n → Begins e (take n run) → Begins e (take m run)
begins_take e run m n h k =
    let whole = sym (take-append-drop m (take n run)) in
    subst (Begins e) (take-take m n run h) (begins_shorter e (take m (take n run)) (drop m (take n run)) (subst (Begins e) whole k))

-- no more than t events of the run begin a word
abbrev pub Longest : Expr → List ℕ → ℕ → Type 0
Longest e run t = (n : ℕ) → n ≤ length run → Begins e (take n run) → n ≤ t

-- all events are taken
pub all_taken : (e : Expr) (run : List ℕ) (t : ℕ) → length run ≤ t → Longest e run t
all_taken e run t h n l k = omega arith

-- the event after the first t does not continue them
pub no_further : (e : Expr) (run : List ℕ) (t : ℕ) → ¬ Begins e (take (suc t) run) → Longest e run t
no_further e run t stuck n l k = go (dec_le n t)
  where
    go : Dec (n ≤ t) → n ≤ t
    go (yes h) = h
    go (no h) = absurd (stuck (begins_take e run (suc t) n (omega arith) k))

-- either of the two is found
longest : (e : Expr) (run : List ℕ) (t : ℕ) → Dec (length run ≤ t) → Dec (Begins e (take (suc t) run)) → Answer (Longest e run t)
longest e run t (yes h) k = found (all_taken e run t h)
longest e run t (no h) (yes k) = unknown
longest e run t (no h) (no k) = found (no_further e run t k)

-- t events are taken
takes : (e : Expr) → Bounded e → (run : List ℕ) (t : ℕ) → Answer (Takes e [] run t)
unfolding then both if_so dec_le begins_decided longest
takes e h run t =
    let no_more = longest e run t (dec_le (length run) t) (begins_decided e h (take (suc t) run)) in
    let all = both (if_so (dec_le t (length run))) (both (if_so (begins_decided e h (take t run))) no_more) in
    then (λ k. record { within = k.0; continues = k.1.0; longest = k.1.1 }) all

-- the run stands so
verdict : (e : Expr) → Bounded e → (run : List ℕ) (t : ℕ) (v : Verdict) → Answer (VerdictOf e [] run t v)
unfolding then both if_so ℕ_discrete dec_lt word_decided Dec.not
verdict e h run t Complete = then (λ k. complete k.0 k.1) (both (if_so (ℕ_discrete t (length run))) (if_so (word_decided e h run)))
verdict e h run t Unfinished = then (λ k. unfinished k.0 k.1) (both (if_so (ℕ_discrete t (length run))) (if_so (Dec.not (word_decided e h run))))
verdict e h run t Broken = then broken (if_so (dec_lt t (length run)))

-- so many events are taken, and so the run stands
unfoldable pub follows : (e : Expr) → Bounded e → (run : List ℕ) (t : ℕ) (v : Verdict) → Answer (Takes e [] run t × VerdictOf e [] run t v)
unfolding both takes verdict
follows e h run t v = both (takes e h run t) (verdict e h run t v)

-- where no event can begin a word, any event is broken
pub never_broken : (e : Expr) → Bounded e → ((v : Move e) → ¬ CanMove e start v) → Begins e []
    → (c : ℕ) → Takes e [] (c ∷ []) 0 × VerdictOf e [] (c ∷ []) 0 Broken
never_broken e h n k c =
    let stuck : ¬ Begins e (c ∷ []) = λ b. let g = begins_arrives e h (c ∷ []) b in n g.1.0 g.1.1.0 in
    (record { within = omega arith; continues = k; longest = no_further e (c ∷ []) 0 stuck }, broken (omega arith))

-- any event is broken, 0 taken
unfoldable pub never : (e : Expr) → Bounded e → Answer ((c : ℕ) → Takes e [] (c ∷ []) 0 × VerdictOf e [] (c ∷ []) 0 Broken)
unfolding then both if_so every moves_list begins_decided
never e h =
    let none = every {Q = λ v. ⊥} (moves_list e start) (λ v. unknown) in
    then (λ k. never_broken e h k.0 k.1) (both none (if_so (begins_decided e h [])))
