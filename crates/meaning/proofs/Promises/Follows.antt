-- Events taken one by one along the ways, up to the first without one, are what Follow promises: for every run that stands at the
-- first spot, so many events are taken, with that verdict, and the state after them is that of the last spot.
use Rattle.std.specs.Prelude.{Ok}
use mathlib.Core.Path.{◌≡◌, refl, sym, subst, subst⁻¹}
use mathlib.Core.List.{List, [], ◌∷◌, ◌++◌, append_assoc, append-nil}
use Prim.Native.Nat.{ℕ, zero, suc, ◌+◌, ◌≤◌, ◌<◌}
use native.Mathlib.Omega.{arith}
use lib.ListN.{length, take, drop, get_or, drop_of_length-le}
use lib.Seq.{drop-cons}
use Rattle.meaning.specs.declared.Verdict.{Verdict}
use Rattle.meaning.specs.Answers.{went_on}
use Rattle.meaning.specs.Expr.{Expr, event, Part, Bounded}
use Rattle.meaning.specs.Word.{Word, Begins}
use Rattle.meaning.specs.Strong.{StronglyDeterministic}
use Rattle.meaning.specs.State.{state_bytes, ReachesBytes}
use Rattle.meaning.specs.File.{Admitted}
use Rattle.meaning.specs.Promises.{VerdictOf, complete, unfinished, broken, GoesOn, Follows}
use Rattle.meaning.specs.Theory.Places.{Place}
use Rattle.meaning.specs.Theory.Spots.{Spot, behind, Safe}
use Rattle.meaning.specs.Theory.Runs.{spot_state, LeadsTo, NoWay, Going, done, stuck, more, VerdictAt, complete_at, unfinished_at, broken_at}
use Rattle.meaning.proofs.File.Files.{holds_bounded}
use Rattle.meaning.proofs.Deciding.Followed.{begins_shorter}
use Rattle.meaning.proofs.Promises.GoesOn.{goes_on_after}
use Rattle.meaning.proofs.State.Runs.{leads_code, RunAt, run_begins, word_iff_stop, no_way_no_more, run_next}
use Rattle.meaning.proofs.State.StateBytes.{bytes_reached_iff, reaches_bytes_run}

-- it stands so with one event less
verdict_less : (e : Expr) (k : Spot e) (t n : ℕ) (v : Verdict) → VerdictAt e k (suc t) (suc n) v → VerdictAt e k t n v
verdict_less e k t n v (complete_at h c) = complete_at (omega arith) c
verdict_less e k t n v (unfinished_at h c) = unfinished_at (omega arith) c
verdict_less e k t n v (broken_at h) = broken_at (omega arith)

module _ (e : Expr) (h : Bounded e) (d : StronglyDeterministic e) where
  -- a run that takes no event, because there is none or because none continues it
  goes_nowhere : (w : List ℕ) (k : Spot e) (events : List ℕ) (v : Verdict) → RunAt e w k
      → ((n : ℕ) → n ≤ length events → Begins e (w ++ take n events) → n ≤ 0) → VerdictOf e w events 0 v
      → GoesOn e w events 0 v (state_bytes (spot_state e k))
  goes_nowhere w k events v at most verdict =
      let same = sym (append-nil w) in
      record {
        taken = record { within = omega arith; continues = subst (Begins e) same (run_begins e h w k at); longest = most };
        verdict = verdict;
        state = subst (λ (x : List ℕ). ReachesBytes e x (state_bytes (spot_state e k))) same (spot_state e k, at.there, refl);
      }

  -- the verdict with no event
  done_verdict : (w : List ℕ) (k : Spot e) (v : Verdict) → RunAt e w k → VerdictAt e k 0 0 v → VerdictOf e w [] 0 v
  done_verdict w k v at (complete_at l c) = complete l (subst⁻¹ (Word e) (append-nil w) ((word_iff_stop e h d w k at).1 c))
  done_verdict w k v at (unfinished_at l c) = unfinished l (λ word. c ((word_iff_stop e h d w k at).0 (subst (Word e) (append-nil w) word)))
  done_verdict w k v at (broken_at l) = absurd (omega arith)

  -- the verdict at an event that does not continue
  stuck_verdict : (w : List ℕ) (k : Spot e) (c : ℕ) (events : List ℕ) (v : Verdict) → VerdictAt e k 0 (suc (length events)) v
      → VerdictOf e w (c ∷ events) 0 v
  stuck_verdict w k c events v (complete_at l s) = absurd (omega arith)
  stuck_verdict w k c events v (unfinished_at l s) = absurd (omega arith)
  stuck_verdict w k c events v (broken_at l) = broken l

  -- where the next event does not continue, none is taken
  none_more : (w : List ℕ) (c : ℕ) (events : List ℕ) → ¬ Begins e (w ++ (c ∷ [])) → (n : ℕ) → Begins e (w ++ take n (c ∷ events)) → n ≤ 0
  none_more w c events never zero b = omega arith
  none_more w c events never (suc n) b =
      absurd (never (begins_shorter e (w ++ (c ∷ [])) (take n events) (subst⁻¹ (Begins e) (append_assoc w (c ∷ []) (take n events)) b)))

  -- events taken along the ways are what every run at the first spot goes on with
  pub going_goes_on : (w : List ℕ) (k j : Spot e) (events : List ℕ) (t : ℕ) (v : Verdict) → RunAt e w k → Going e k events t j
      → VerdictAt e j t (length events) v → GoesOn e w events t v (state_bytes (spot_state e j))
  going_goes_on w k j events t v at (done i) s = goes_nowhere w k [] v at (λ n l b. l) (done_verdict w k v at s)
  going_goes_on w k j events t v at (stuck i c r n) s =
      goes_nowhere w k (c ∷ r) v at (λ m l. none_more w c r (no_way_no_more e h d w k at c n) m) (stuck_verdict w k c r v s)
  going_goes_on w k j events t v at (more i l c r n q p m z g) s =
      let next = subst (λ (b : ℕ). RunAt e (w ++ (b ∷ [])) (behind p)) (leads_code e k q c p m z) (run_next e h d w k at q p z) in
      let on = going_goes_on (w ++ (c ∷ [])) (behind p) j r n v next g (verdict_less e j n (length r) v s) in
      subst (λ (b : ℕ). GoesOn e w (c ∷ r) b v (state_bytes (spot_state e j))) (omega arith) (goes_on_after e w (c ∷ []) r n v _ on)

-- ---- for a loop: so many events taken so far, and the spot where the run stands now

-- i of the events are taken, and the run stands at the last spot: whatever goes on from there goes on from the first
pub record Gone (e : Expr) (k : Spot e) (events : List ℕ) (i : ℕ) (j : Spot e) : Type 0 where
  pub onward : (n : ℕ) (l : Spot e) → Going e j (drop i events) n l → Going e k events (i + n) l

-- the events from the i-th on
from_here : (events : List ℕ) (i c : ℕ) → i < length events → get_or events i 0 ≡ c → drop i events ≡ c ∷ drop (suc i) events
from_here events i c h code = subst (λ (b : ℕ). drop i events ≡ b ∷ drop (suc i) events) code (drop-cons events i 0 h)

-- at first none is taken
pub gone_none : (e : Expr) (k : Spot e) (events : List ℕ) → Gone e k events 0 k
gone_none e k events = record { onward = λ n l g. subst (λ (m : ℕ). Going e k events m l) (omega arith) g }

-- one more, by a way to an event node with its code
pub gone_more : (e : Expr) (k j : Spot e) (events : List ℕ) (i c q : ℕ) (t : Place e) → Gone e k events i j → i < length events
    → get_or events i 0 ≡ c → Part 0 e q (event c) → LeadsTo e j q t → Gone e k events (i + 1) (behind t)
gone_more e k j events i c q t g h code p l = record { onward = on }
  where
    on : (n : ℕ) (z : Spot e) → Going e (behind t) (drop (i + 1) events) n z → Going e k events (i + 1 + n) z
    on n z w =
        let later : i + 1 ≡ suc i = omega arith in
        let count : i + suc n ≡ i + 1 + n = omega arith in
        let further = more j z c (drop (suc i) events) n q t p l (subst (λ (m : ℕ). Going e (behind t) (drop m events) n z) later w) in
        subst (λ (m : ℕ). Going e k events m z) count (g.onward (suc n) z (subst⁻¹ (λ (b : List ℕ). Going e j b (suc n) z) (from_here events i c h code) further))

-- the events end here
pub gone_done : (e : Expr) (k j : Spot e) (events : List ℕ) (i : ℕ) → Gone e k events i j → length events ≤ i → Going e k events i j
gone_done e k j events i g h =
    subst (λ (m : ℕ). Going e k events m j) (omega arith)
    (g.onward 0 j (subst⁻¹ (λ (b : List ℕ). Going e j b 0 j) (drop_of_length-le events h) (done j)))

-- the next has no way
pub gone_stuck : (e : Expr) (k j : Spot e) (events : List ℕ) (i c : ℕ) → Gone e k events i j → i < length events → get_or events i 0 ≡ c
    → NoWay e j c → Going e k events i j
gone_stuck e k j events i c g h code n =
    subst (λ (m : ℕ). Going e k events m j) (omega arith)
    (g.onward 0 j (subst⁻¹ (λ (b : List ℕ). Going e j b 0 j) (from_here events i c h code) (stuck j c (drop (suc i) events) n)))

-- ---- the promise

-- the answer for the state's bytes of the first spot is what its events come to along the ways
pub going_follows : (f state events : List ℕ) (e : Expr) (k j : Spot e) (t : ℕ) (v : Verdict) → Admitted f e → Safe e k
    → state ≡ state_bytes (spot_state e k) → Going e k events t j → VerdictAt e j t (length events) v
    → Follows f state events (Ok (went_on t v)) (state_bytes (spot_state e j))
going_follows f state events e k j t v a s b g verdict =
    let h = a.holds in
    let u = (bytes_reached_iff e (holds_bounded h) state).1 (k, s, b) in
    Follows.followed e u.0 t v (state_bytes (spot_state e j)) a u.1
    (λ w r. going_goes_on e (holds_bounded h) a.strong w k j events t v (reaches_bytes_run f e h k s state w b r) g verdict)
