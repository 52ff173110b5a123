-- What is worked out of a node, from what is known of its children. Each law ends in what a combiner promises. Assumes nothing.
use mathlib.Core.Bool.{Bool, true, false, So, false≢true, true≢false, not}
use mathlib.Core.Logic.Iff
use mathlib.Core.Logic.{◌↔◌, ◌⊎◌, inl, ⊎_elim, ⊎_map}
use mathlib.Core.Path.{◌≡◌, refl, sym, ap, subst₂, ◌∙◌}
use Prim.Native.Nat.{ℕ}
use Rattle.std.specs.Prelude.{IsFalse}
use Rattle.codes.specs.Codes.{Codes, Contains}
use Rattle.meaning.specs.Expr.{Expr, choice, sequence, Upper}
use Rattle.meaning.specs.Node.{bound}
use Rattle.meaning.specs.Normal.{nullable, low}
use Rattle.meaning.specs.Sets.{First, After, Starts, Flexible}
use Rattle.procedure.specs.Bounds.{Normal, upper}
use Rattle.procedure.specs.Tests.{Decides}
use Rattle.procedure.specs.declared.bounds.Bounds.{Bounds}
use Rattle.procedure.proofs.Deciding.{decides_so}
use Rattle.sets.specs.Sets.{PartOf, EndsWith, Joins, OverBody}
use Rattle.sets.specs.declared.joins.PartSets.{PartSets}

iff_or : {A B C D : Type 0} → A ↔ C → B ↔ D → (A ⊎ B) ↔ (C ⊎ D)
iff_or p q = (⊎_map p.0 q.0, ⊎_map p.1 q.1)

-- the set has the codes of P
abbrev pub Exactly : Codes → (ℕ → Type 0) → Type 0
Exactly set P = (c : ℕ) → Contains set c ↔ P c

-- a part may be empty, as it is known and as it is
may_be_empty : {e : Expr} {p : PartSets} → PartOf e p → So p.null ↔ So (nullable e)
may_be_empty p = (λ h. sym p.empties ∙ h, λ h. p.empties ∙ h)

-- the right part of a sequence begins it, as it is known and as it is
pub begun : {a b : Expr} {l r : PartSets} (begins : Codes) → Exactly begins (λ c. So l.null × Contains r.first c) → PartOf a l → PartOf b r
    → Exactly begins (λ c. So (nullable a) × First b c)
begun begins h x y = λ c. Iff.trans (h c) (Iff.and (may_be_empty x) (y.firsts c))

-- ---- a choice

pub joins_choice : (l r : PartSets) (first after : Codes)
    → Exactly first (λ c. Contains l.first c ⊎ Contains r.first c)
    → Exactly after (λ c. Contains l.after c ⊎ Contains r.after c)
    → Joins choice l r (record { first = first; after = after })
unfolding Joins
joins_choice l r first after f a p q x y = record {
  firsts = λ c. Iff.trans (f c) (iff_or (x.firsts c) (y.firsts c));
  afters = λ c. Iff.trans (a c) (iff_or (x.afters c) (y.afters c));
}

-- ---- a sequence

-- where its first has a code, a part has an event to begin with
starts_told : (e : Expr) (first : Codes) (none : Bool) → Exactly first (First e) → IsFalse none ↔ ((c : ℕ) × Contains first c)
    → So (not none) ↔ Starts e
starts_told e first true f some = (λ o. absurd (false≢true o), λ z. absurd (true≢false (some.1 (z.0, (f z.0).1 z.1))))
starts_told e first false f some = (λ o. let z = some.0 refl in (z.0, (f z.0).0 z.1), λ z. refl)

-- after, where the right part must come
pub after_right : (l r : PartSets) → r.null ≡ false → EndsWith l r r.after
unfolding EndsWith
after_right l r must p q x y c = (
  λ h. inl ((y.afters c).0 h),
  ⊎_elim (y.afters c).1 (λ w. absurd (false≢true (sym must ∙ y.empties ∙ w.0))),
)

-- and where it may be empty
pub after_either : (l r : PartSets) (none : Bool) (follows ended after : Codes) → So r.null
    → IsFalse none ↔ ((c : ℕ) × Contains l.first c)
    → Exactly follows (λ c. So (not none) × Contains r.first c)
    → Exactly ended (λ c. Contains l.after c ⊎ Contains follows c)
    → Exactly after (λ c. Contains r.after c ⊎ Contains ended c)
    → EndsWith l r after
unfolding EndsWith
after_either l r none follows ended after may hsome hf he ha p q x y =
    let starts = starts_told p l.first none x.firsts hsome in
    let comes : Exactly follows (λ c. Starts p × First q c) = λ c. Iff.trans (hf c) (Iff.and starts (y.firsts c)) in
    let ends : Exactly ended (λ c. After p c ⊎ (Starts p × First q c)) = λ c. Iff.trans (he c) (iff_or (x.afters c) (comes c)) in
    let empty = (may_be_empty y).0 may in
    λ c. Iff.trans (ha c) (iff_or (y.afters c) (λ h. (empty, (ends c).0 h), λ w. (ends c).1 w.1))

pub joins_sequence : (l r : PartSets) (begins first after : Codes)
    → Exactly begins (λ c. So l.null × Contains r.first c)
    → Exactly first (λ c. Contains l.first c ⊎ Contains begins c)
    → EndsWith l r after
    → Joins sequence l r (record { first = first; after = after })
unfolding Joins EndsWith
joins_sequence l r begins first after hb hf ha p q x y = record {
  firsts = λ c. Iff.trans (hf c) (iff_or (x.firsts c) (begun begins hb x y c));
  afters = ha p q x y;
}

-- ---- a repeat

pub over_body : (lower most : ℕ) (b : PartSets) (bounds : Bounds) (flexible : Bool) (may_follow after : Codes)
    → Normal (low b.null lower) (bound most) bounds
    → Decides (Flexible bounds.least (upper bounds)) flexible
    → Exactly may_follow (λ c. So flexible × Contains b.first c)
    → Exactly after (λ c. Contains b.after c ⊎ Contains may_follow c)
    → OverBody lower most b (record { first = b.first; after = after })
unfolding OverBody
over_body lower most b bounds flexible may_follow after normal hflex hm ha e x =
    let flex : So flexible ↔ Flexible (low (nullable e) lower) (bound most) =
    decides_so _ flexible (subst₂ (λ (m : ℕ) (u : Upper). Decides (Flexible m u) flexible) (normal.least ∙ ap (λ (v : Bool). low v lower) x.empties) normal.most hflex) in
    record {
      firsts = x.firsts;
      afters = λ c. Iff.trans (ha c) (iff_or (x.afters c) (Iff.trans (hm c) (Iff.and flex (x.firsts c))));
    }
