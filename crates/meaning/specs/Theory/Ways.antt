-- No promise, a model of the step in our code: the way from a place to an event node.
-- It goes upward while parts end, until a node where it turns towards the event.
use Rattle.std.proofs.Common.{inl, inr}
use Rattle.std.specs.Prelude.{Bool, true, cond, ℕ, zero, suc, ◌+◌, eqb, leb}
use Rattle.meaning.specs.Expr.{Expr, empty, event, choice, sequence, repeat, size, Upper, upto, endless}
use Rattle.meaning.specs.Normal.{nullable, low}
use Rattle.meaning.specs.Theory.Places.{Place}

-- a place, or none
pub data Entry (A : Type 0) : Type 0 where
  enters : A → Entry A
  apart : Entry A

-- the entry of the first that has one
abbrev pub or_else : {A : Type 0} → Entry A → Entry A → Entry A
or_else (enters a) y = enters a
or_else apart y = y

abbrev pub map_entry : {A B : Type 0} → (A → B) → Entry A → Entry B
map_entry f (enters a) = enters (f a)
map_entry f apart = apart

-- the place at which event node q is the first event of a reading of the part
abbrev pub entry : ℕ → (e : Expr) → ℕ → Entry (Place e)
entry s empty q = apart
entry s (event c) q = cond (eqb q s) (enters tt) apart
entry s (choice l r) q = or_else (map_entry inl (entry s l q)) (map_entry inr (entry (s + size l) r q))
entry s (sequence l r) q = or_else (map_entry inl (entry s l q)) (cond (nullable l) (map_entry inr (entry (s + size l) r q)) apart)
entry s (repeat b lower upper) q = map_entry (λ p. (p, zero)) (entry s b q)

-- where the way from a place leads within a part: it turns to a place, or the part ends, or it is stuck
pub data Way (A : Type 0) : Type 0 where
  turns : A → Way A
  ends : Way A
  stuck : Way A

abbrev pub map_way : {A B : Type 0} → (A → B) → Way A → Way B → Way B
map_way f (turns a) y = turns (f a)
map_way f ends y = y
map_way f stuck y = stuck

-- turn where there is an entry; else go on upward
abbrev pub turn_or : {A B : Type 0} → (A → B) → Entry A → Way B → Way B
turn_or f (enters a) y = turns (f a)
turn_or f apart y = y

-- up from a child: the way within the child; where that ends, a turn at an entry; else the end, behind a test
abbrev pub climb : {A B C : Type 0} → (A → C) → Way A → (B → C) → Entry B → Bool → Way C
climb f x g y b = map_way f x (turn_or g y (cond b ends stuck))

-- one more block is allowed after k + 1
abbrev pub another : ℕ → Upper → Bool
another k (upto n) = leb (suc (suc k)) n
another k endless = true

-- the way from the place towards event node q, within the part
abbrev pub way : ℕ → (e : Expr) → Place e → ℕ → Way (Place e)
way s empty p q = stuck
way s (event c) p q = ends
way s (choice l r) (inl p) q = map_way inl (way s l p q) ends
way s (choice l r) (inr p) q = map_way inr (way (s + size l) r p q) ends
way s (sequence l r) (inl p) q =
    map_way inl (way s l p q) (turn_or inr (entry (s + size l) r q) (cond (nullable r) ends stuck))
way s (sequence l r) (inr p) q = map_way inr (way (s + size l) r p q) ends
way s (repeat b lower upper) p q =
    map_way (λ t. (t, p.1)) (way s b p.0 q)
    (turn_or (λ t. (t, suc p.1)) (cond (another p.1 upper) (entry s b q) apart)
    (cond (leb (low (nullable b) lower) (suc p.1)) ends stuck))

-- the way turns somewhere
abbrev pub Turned : {A : Type 0} → Way A → Type 0
Turned (turns a) = Unit {0}
Turned ends = ⊥
Turned stuck = ⊥
