-- The bench cases B1 to B14: one table of the definitions, and one statement that every claim in it holds.
use mathlib.Core.Path.{◌≡◌, sym, subst, ◌∙◌}
use mathlib.Core.Logic.{◌↔◌}
use mathlib.Core.List.{List, [], ◌∷◌, map}
use Prim.Native.Nat.{ℕ}
use native.Mathlib.Decide.{ℕ_discrete}
use Rattle.meaning.specs.declared.Verdict.{Verdict}
use Rattle.meaning.specs.declared.Verdict.TheVariants.{Complete, Unfinished, Broken}
use Rattle.meaning.specs.Expr.{Expr, empty, event, choice, sequence, repeat, upto, endless, Bounded}
use Rattle.meaning.specs.Reading.{Item, Reading, codes}
use Rattle.meaning.specs.Strong.{StronglyDeterministic}
use Rattle.meaning.specs.Conflict.{LowestConflict, SharedCodes}
use Rattle.meaning.specs.State.{State, Reaches}
use Rattle.meaning.specs.Record.{item_number}
use Rattle.meaning.specs.Promises.{Takes, VerdictOf}
use Rattle.meaning.proofs.Deciding.Listed.{some}
use Rattle.meaning.proofs.Deciding.Answer.{Answer, found, unknown, if_so, then, next, both, equal, every}
use Rattle.meaning.proofs.Deciding.Bounds.{bounded}
use Rattle.meaning.proofs.Deciding.ConflictList.{no_conflict, lowest}
use Rattle.meaning.proofs.Deciding.SharedSet.{shared_codes}
use Rattle.meaning.proofs.Determinism.Unique.{free_iff_no_conflict, free_strong}
use Rattle.meaning.proofs.Deciding.Search.{reading_list, state_list}
use Rattle.meaning.proofs.Deciding.Followed.{follows, never}

-- a claim about an expression
pub data Claim : Type 0 where
  -- it is admitted
  admitted : Claim
  -- it is refused: node, kind, code, the two words of the set of shared codes, and how many they are
  refused : ℕ → ℕ → ℕ → ℕ → ℕ → ℕ → Claim
  -- a run, how many of its events are taken, and the verdict
  run : List ℕ → ℕ → Verdict → Claim
  -- any event is broken, 0 taken
  no_event : Claim
  -- a run and its record, item by item
  recorded : List ℕ → List ℕ → Claim
  -- a run and the state after it: 1 + the event node reached, and the counters
  state : List ℕ → ℕ → List ℕ → Claim

-- what the claim says
abbrev pub Says : Expr → Claim → Type 0
Says e admitted = StronglyDeterministic e
Says e (refused i k c low high n) = LowestConflict e i k c × SharedCodes e i k low high n
Says e (run u t v) = Takes e [] u t × VerdictOf e [] u t v
Says e no_event = (c : ℕ) → Takes e [] (c ∷ []) 0 × VerdictOf e [] (c ∷ []) 0 Broken
Says e (recorded u numbers) =
    ((x : List Item) × Reading 0 e x × (codes x ≡ u)) × ((x : List Item) → Reading 0 e x → codes x ≡ u → map item_number x ≡ numbers)
Says e (state u n counts) = (z : State) → Reaches e u z ↔ (z ≡ record { node = n; counts = counts })

-- an expression and the claims about it
pub data Case : Type 0 where
  case : Expr → List Claim → Case

-- every claim about the expression holds
abbrev pub CaseHolds : Expr → List Claim → Type 0
CaseHolds e [] = Unit {0}
CaseHolds e (k ∷ ks) = Says e k × CaseHolds e ks

-- every case of the table holds
abbrev pub TableHolds : List Case → Type 0
TableHolds [] = Unit {0}
TableHolds (case e ks ∷ cases) = CaseHolds e ks × TableHolds cases

-- the two codes of the bench cases
abbrev a : ℕ
a = 0

abbrev b : ℕ
b = 1

-- a{2,4}
abbrev b1 : Expr
b1 = repeat (event a) 2 (upto 4)

-- (a{0,1}){0,3}
abbrev pub b2 : Expr
b2 = repeat (repeat (event a) 0 (upto 1)) 0 (upto 3)

-- (a{1,2}){3,4}
abbrev b3 : Expr
b3 = repeat (repeat (event a) 1 (upto 2)) 3 (upto 4)

-- ((a+e)(b+e)){0,2}
abbrev b4 : Expr
b4 = repeat (sequence (choice (event a) empty) (choice (event b) empty)) 0 (upto 2)

-- a{2,2} a
abbrev pub b5 : Expr
b5 = sequence (repeat (event a) 2 (upto 2)) (event a)

-- a{0,2} a
abbrev b6 : Expr
b6 = sequence (repeat (event a) 0 (upto 2)) (event a)

-- a{2,3} a
abbrev b7 : Expr
b7 = sequence (repeat (event a) 2 (upto 3)) (event a)

-- (a{2,3}(b+e)){0,no bound}
abbrev b8 : Expr
b8 = repeat (sequence (repeat (event a) 2 (upto 3)) (choice (event b) empty)) 0 endless

-- (e b{0,1}){0,2}
abbrev pub b9 : Expr
b9 = repeat (sequence empty (repeat (event b) 0 (upto 1))) 0 (upto 2)

-- (a+e){3,3}
abbrev pub b10 : Expr
b10 = repeat (choice (event a) empty) 3 (upto 3)

-- a + ab
abbrev b11 : Expr
b11 = choice (event a) (sequence (event a) (event b))

-- (ab){1,2}
abbrev b12 : Expr
b12 = repeat (sequence (event a) (event b)) 1 (upto 2)

-- e
abbrev b13 : Expr
b13 = empty

-- (a{2,2}){0,no bound}
abbrev b14 : Expr
b14 = repeat (repeat (event a) 2 (upto 2)) 0 endless

-- a{3,no bound}
abbrev counted : Expr
counted = repeat (event a) 3 endless

-- (a{1,2}){0,1}
abbrev once : Expr
once = repeat (repeat (event a) 1 (upto 2)) 0 (upto 1)

-- (e5 e1{0,1}){0,1}(e5+e1)
abbrev two_kinds : Expr
two_kinds = sequence (repeat (sequence (event 5) (repeat (event 1) 0 (upto 1))) 0 (upto 1)) (choice (event 5) (event 1))

-- (e63+e64)+(e63+e64)
abbrev both_words : Expr
both_words = choice (choice (event 63) (event 64)) (choice (event 63) (event 64))

abbrev pub table : List Case
table =
    -- B1: a unfinished; aa complete; aaaaa broken, 4 taken
    case b1 (admitted ∷ run (a ∷ []) 1 Unfinished ∷ run (a ∷ a ∷ []) 2 Complete ∷ run (a ∷ a ∷ a ∷ a ∷ a ∷ []) 4 Broken ∷ [])
    -- B2: admitted; aaa complete; aaaa broken, 3 taken
    ∷ case b2 (admitted ∷ run (a ∷ a ∷ a ∷ []) 3 Complete ∷ run (a ∷ a ∷ a ∷ a ∷ []) 3 Broken ∷ [])
    -- B3: 7, node 2, kind 4, code 0, and no other code
    ∷ case b3 (refused 2 4 0 1 0 1 ∷ [])
    -- B4: 7, node 7, kind 4, code 1, and no other code
    ∷ case b4 (refused 7 4 1 2 0 1 ∷ [])
    -- B5: admitted; the record of aaa is 4097, 0, 8193, 4097, 0, 8193, 2
    ∷ case b5 (admitted ∷ recorded (a ∷ a ∷ a ∷ []) (4097 ∷ 0 ∷ 8193 ∷ 4097 ∷ 0 ∷ 8193 ∷ 2 ∷ []) ∷ [])
    -- B6: 7, node 3, kind 2, code 0, and no other code
    ∷ case b6 (refused 3 2 0 1 0 1 ∷ [])
    -- B7: 7, node 3, kind 3, code 0, and no other code
    ∷ case b7 (refused 3 3 0 1 0 1 ∷ [])
    -- B8: 7, node 6, kind 4, code 0, and no other code
    ∷ case b8 (refused 6 4 0 1 0 1 ∷ [])
    -- B9: admitted; bb complete
    ∷ case b9 (admitted ∷ run (b ∷ b ∷ []) 2 Complete ∷ [])
    -- B10: admitted; the empty run complete; record of a is 4099, 0, 8195
    ∷ case b10 (admitted ∷ run [] 0 Complete ∷ recorded (a ∷ []) (4099 ∷ 0 ∷ 8195 ∷ []) ∷ [])
    -- B11: 7, node 4, kind 1, code 0, and no other code
    ∷ case b11 (refused 4 1 0 1 0 1 ∷ [])
    -- B12: record of abab is 4099, 0, 1, 8195, 4099, 0, 1, 8195
    ∷ case b12 (admitted ∷ recorded (a ∷ b ∷ a ∷ b ∷ []) (4099 ∷ 0 ∷ 1 ∷ 8195 ∷ 4099 ∷ 0 ∷ 1 ∷ 8195 ∷ []) ∷ [])
    -- B13: empty run complete with an empty record; any event broken, 0 taken
    ∷ case b13 (admitted ∷ run [] 0 Complete ∷ recorded [] [] ∷ no_event ∷ [])
    -- B14: aaa unfinished, aaaa complete
    ∷ case b14 (admitted ∷ run (a ∷ a ∷ a ∷ []) 3 Unfinished ∷ run (a ∷ a ∷ a ∷ a ∷ []) 4 Complete ∷ [])
    -- our own: with no upper bound the counter stops at the lower bound, and at 1 where that is 0
    ∷ case counted (admitted ∷ state (a ∷ a ∷ a ∷ a ∷ a ∷ []) 1 (3 ∷ []) ∷ [])
    ∷ case b14 (state (a ∷ a ∷ a ∷ a ∷ a ∷ []) 1 (1 ∷ 1 ∷ []) ∷ [])
    -- our own: a body that goes on as it begins is no conflict under an upper bound of 1
    ∷ case once (admitted ∷ [])
    -- our own: what kind 3 shares at the node, code 1, is not in the set of kind 2
    ∷ case two_kinds (refused 8 2 5 32 0 1 ∷ [])
    -- our own: two codes, one in each word
    ∷ case both_words (refused 6 1 63 9223372036854775808 1 2 ∷ [])
    ∷ []

-- the record of a run is the one claimed
record_is : (e : Expr) → Bounded e → (u numbers : List ℕ) → Answer (Says e (recorded u numbers))
unfolding if_so then both equal every some reading_list
record_is e h u numbers =
    let readings = reading_list e h u in
    let all = both (if_so (some readings)) (every readings (λ x. equal (map item_number x) numbers)) in
    then (λ k. ((k.0.0, k.0.1.0, k.0.1.1), λ x r c. k.1 x (r, c))) all

-- the state is the one claimed
same_state : (z : State) (n : ℕ) (counts : List ℕ) → Answer (z ≡ record { node = n; counts = counts })
unfolding then both if_so ℕ_discrete equal
same_state z n counts = then (λ h i. record { node = h.0 i; counts = h.1 i }) (both (if_so (ℕ_discrete z.node n)) (equal z.counts counts))

-- the state after a run is the one claimed, and no other
state_is : (e : Expr) → Bounded e → (u : List ℕ) (n : ℕ) (counts : List ℕ) → Answer (Says e (state u n counts))
unfolding if_so then both every some state_list same_state
state_is e h u n counts =
    let states = state_list e h u in
    let all = both (if_so (some states)) (every states (λ z. same_state z n counts)) in
    then (λ k z. (k.1 z, λ p. subst (Reaches e u) (k.1 k.0.0 k.0.1 ∙ sym p) k.0.1)) all

-- a claim is found by computing
unfoldable pub decide : (e : Expr) (k : Claim) → Answer (Says e k)
unfolding then next both bounded no_conflict lowest shared_codes follows never record_is state_is
decide e admitted = next (bounded e) (λ h. then (λ n. free_strong e h ((free_iff_no_conflict 0 e).1 n)) (no_conflict e))
decide e (refused i k c low high n) = both (lowest e i k c) (shared_codes e i k low high n)
decide e (run u t v) = next (bounded e) (λ h. follows e h u t v)
decide e no_event = next (bounded e) (never e)
decide e (recorded u numbers) = next (bounded e) (λ h. record_is e h u numbers)
decide e (state u n counts) = next (bounded e) (λ h. state_is e h u n counts)

-- a claim that was not found; where the table does not hold, the check shows the first such
data NotFound (e : Expr) (k : Claim) : Type 0 where

-- the claim is found, and then the rest
FoundThen : (e : Expr) (k : Claim) → Answer (Says e k) → Type 0 → Type 0
FoundThen e k (found p) rest = rest
FoundThen e k unknown rest = NotFound e k

-- every claim about the expression is found, and then the rest
ClaimsFound : Expr → List Claim → Type 0 → Type 0
unfolding decide FoundThen
ClaimsFound e [] rest = rest
ClaimsFound e (k ∷ ks) rest = FoundThen e k (decide e k) (ClaimsFound e ks rest)

-- every claim of the table is found
AllFound : List Case → Type 0
unfolding ClaimsFound
AllFound [] = Unit {0}
AllFound (case e ks ∷ cases) = ClaimsFound e ks (AllFound cases)

-- claims that were found hold
said : (e : Expr) (ks : List Claim) (rest : Type 0) → ClaimsFound e ks rest → CaseHolds e ks × rest
unfolding ClaimsFound FoundThen
said e [] rest h = (tt, h)
said e (k ∷ ks) rest h = go (decide e k) (said e ks rest) h
  where
    go : (p : Answer (Says e k)) → (ClaimsFound e ks rest → CaseHolds e ks × rest) → FoundThen e k p (ClaimsFound e ks rest) → CaseHolds e (k ∷ ks) × rest
    go (found p) on f = let t = on f in ((p, t.0), t.1)
    go unknown on f = elim f [ ]

-- a table that was found holds
hold : (cases : List Case) → AllFound cases → TableHolds cases
unfolding AllFound
hold [] h = tt
hold (case e ks ∷ cases) h = let t = said e ks (AllFound cases) h in (t.0, hold cases t.1)

-- every claim of the table holds
pub bench_cases : TableHolds table
unfolding AllFound
bench_cases = hold table tt
