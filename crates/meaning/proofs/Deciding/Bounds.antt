-- Whether an upper bound allows a number, and whether the bounds of every repeat are in order, found by computing.
use Prim.Native.Nat.{ℕ}
use native.Mathlib.Decide.{dec_le}
use Rattle.meaning.specs.Expr.{Expr, empty, event, choice, sequence, repeat, Upper, upto, endless, Within, Bounded}
use Rattle.meaning.proofs.Deciding.Answer.{Answer, found, if_so, then, both}

-- the number is at most the upper bound, or not
unfoldable pub within_decided : (j : ℕ) (upper : Upper) → Dec (Within j upper)
unfolding dec_le
within_decided j (upto n) = dec_le j n
within_decided j endless = yes tt

-- every repeat has lower at most upper, and upper at least 1
unfoldable pub bounded : (e : Expr) → Answer (Bounded e)
unfolding both if_so then within_decided
bounded empty = found tt
bounded (event c) = found tt
bounded (choice l r) = both (bounded l) (bounded r)
bounded (sequence l r) = both (bounded l) (bounded r)
bounded (repeat b lower upper) =
    then (λ h. (h.0, h.1.0, h.1.1)) (both (bounded b) (both (if_so (within_decided lower upper)) (if_so (within_decided 1 upper))))
