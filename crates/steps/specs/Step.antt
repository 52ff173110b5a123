-- What a step gives, from the tree: the way to an event node, and the counters of the place it leads to. A model of our code, and no
-- promise.
use Rattle.std.specs.Prelude.{◌≡◌, Bool, true, false, List, ℕ}
use Rattle.meaning.specs.Expr.{Expr}
use Rattle.meaning.specs.Theory.Places.{Place, node_of}
use Rattle.meaning.specs.Theory.Ways.{entry, enters, apart, way, turns, ends}
use Rattle.meaning.specs.Theory.Counts.{Marked}

-- from place p to event node q, with the counters c before and d after: yes exactly if the way turns to a place, whose counters d are
pub data Stepped (e : Expr) (p : Place e) (q : ℕ) : Bool → List ℕ → List ℕ → Type 0 where
  steps : {c d : List ℕ} (t : Place e) → way 0 e p q ≡ turns t → node_of 0 e t ≡ q → Marked d e t → Stepped e p q true c d
  stays : {c : List ℕ} → ((t : Place e) → way 0 e p q ≡ turns t → ⊥) → Stepped e p q false c c

-- from the start to event node q: yes exactly if the expression can begin with it
pub data Started (e : Expr) (q : ℕ) : Bool → List ℕ → List ℕ → Type 0 where
  starts : {c d : List ℕ} (t : Place e) → entry 0 e q ≡ enters t → node_of 0 e t ≡ q → Marked d e t → Started e q true c d
  stays : {c : List ℕ} → entry 0 e q ≡ apart → Started e q false c c

-- the run that stands at place p may end there: towards no node of the n the way ends
pub data Ended (n : ℕ) (e : Expr) (p : Place e) : Bool → Type 0 where
  ended : way 0 e p n ≡ ends → Ended n e p true
  open_yet : (way 0 e p n ≡ ends → ⊥) → Ended n e p false
