-- The codes that a node shares in its conflict of a kind, as a set in two words with their number: found by computing.
use mathlib.Core.Path.{◌≡◌, refl, subst}
use mathlib.Core.Logic.{◌⊎◌, inl, inr, ⊎_elim}
use Prim.Native.Nat.{ℕ, zero, suc, ◌+◌, ◌^◌, ◌<◌, ◌/◌, ◌%◌}
use native.Mathlib.Decide.{ℕ_discrete, dec_lt}
use native.Mathlib.Omega.{arith}
use Rattle.meaning.specs.Codes.{Has, in_words, most_code}
use Rattle.meaning.specs.Conflict.{SharedCodes}
use Rattle.meaning.specs.Expr.{Expr}
use Rattle.meaning.specs.Properties.{CountBelow}
use Rattle.meaning.proofs.Deciding.Answer.{Answer, every, both, if_so, provided, then}
use Rattle.meaning.proofs.Deciding.ConflictList.{conflict_list, named_discrete}
use Rattle.meaning.proofs.Deciding.Listed.{Listed, either, holds, kept, nothing, only, same}
use Rattle.meaning.proofs.General.CodeSets.{code_in_words}
use Rattle.meaning.proofs.General.Properties.{counted}

-- a code is in the set, or not
has_decided : (set c : ℕ) → Dec (Has set c)
unfolding Has ℕ_discrete
has_decided set c = ℕ_discrete (set / 2 ^ c % 2) 1

-- the numbers below k
below_list : (k : ℕ) → Listed (λ c. c < k)
unfolding nothing only either same
below_list zero = nothing (λ c l. absurd (omega arith))
below_list (suc k) = same (either (below_list k) (only k)) (λ c. ⊎_elim (λ l. omega arith) (λ e. omega arith)) (λ c l. side c l (dec_lt c k))
  where
    side : (c : ℕ) → c < suc k → Dec (c < k) → (c < k) ⊎ (c ≡ k)
    side c l (yes h) = inl h
    side c l (no h) = inr (omega arith)

-- the codes of a set
set_list : (set : ℕ) → Listed (λ c. (c < most_code + 1) × Has set c)
unfolding kept below_list has_decided
set_list set = kept (below_list (most_code + 1)) (has_decided set)

-- so many codes are in the set
count_is : (set n : ℕ) → Answer (CountBelow (Has set) (most_code + 1) n)
unfolding then if_so counted has_decided ℕ_discrete
count_is set n =
    let found = counted (has_decided set) (most_code + 1) in
    then (λ e. subst (CountBelow (Has set) (most_code + 1)) e found.1) (if_so (ℕ_discrete found.0 n))

-- the shared codes are those claimed
unfoldable pub shared_codes : (e : Expr) (i k low high n : ℕ) → Answer (SharedCodes e i k low high n)
unfolding then both every if_so provided holds dec_lt ℕ_discrete named_discrete conflict_list set_list has_decided count_is in_words
shared_codes e i k low high n =
    let set = in_words low high in
    let all = conflict_list 0 e in
    let words = both (if_so (dec_lt low (2 ^ 64))) (if_so (dec_lt high (2 ^ 64))) in
    let shared = every (set_list set) (λ c. if_so (holds named_discrete all (i, k, c))) in
    let whole = every all (λ w. provided (ℕ_discrete w.0 i) (provided (ℕ_discrete w.1 k) (if_so (has_decided set w.2)))) in
    then (λ t. record {
      set = record {
        low_word = t.0.0;
        high_word = t.0.1;
        codes = λ c. (λ h. t.1.0 c (code_in_words low high c t.0.0 t.0.1 h, h), λ f. t.1.1.0 (i, k, c) f refl refl);
      };
      count = t.1.1.1;
    }) (both words (both shared (both whole (count_is set n))))
