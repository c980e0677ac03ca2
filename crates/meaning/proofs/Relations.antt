-- The six relations: three pairs of opposites, two that are above and two that are below. Assumes nothing.
use mathlib.Core.Path.{◌≡◌, refl}
use mathlib.Core.Logic.{⊎_elim}
use mathlib.Core.Bool.{Bool, false, not, So, false≢true}
use lib.IntN.{ℤ}
use Rattle.std.proofs.lemmas.Bool.{and_parts, or_cases}
use Rattle.laws.proofs.Tests.{not_of}
use Rattle.meaning.specs.declared.codes.Aggregate.{Aggregate}
use Rattle.meaning.specs.declared.codes.Relation.{Relation}
use Rattle.meaning.specs.Truth.{opposite, related}
use Rattle.meaning.specs.Refusal.{grows, is_above, is_below, shrinks}

-- a pair of opposites clashes if the three do
pub by_opposites : (P : Relation → Type 0) → (P Relation.Eq → P Relation.Ne → ⊥) → (P Relation.Lt → P Relation.Ge → ⊥) →
    (P Relation.Gt → P Relation.Le → ⊥) → (r : Relation) → P r → P (opposite r) → ⊥
by_opposites P p q s Relation.Eq x y = p x y
by_opposites P p q s Relation.Ne x y = p y x
by_opposites P p q s Relation.Lt x y = q x y
by_opposites P p q s Relation.Ge x y = q y x
by_opposites P p q s Relation.Gt x y = s x y
by_opposites P p q s Relation.Le x y = s y x

-- what holds of > and ≥ holds of each relation that is above
pub by_above : (P : Relation → Type 0) → P Relation.Gt → P Relation.Ge → (r : Relation) → So (is_above r) → P r
by_above P p q Relation.Eq t = absurd (false≢true t)
by_above P p q Relation.Ne t = absurd (false≢true t)
by_above P p q Relation.Lt t = absurd (false≢true t)
by_above P p q Relation.Le t = absurd (false≢true t)
by_above P p q Relation.Gt t = p
by_above P p q Relation.Ge t = q

-- what holds of < and ≤ holds of each relation that is below
pub by_below : (P : Relation → Type 0) → P Relation.Lt → P Relation.Le → (r : Relation) → So (is_below r) → P r
by_below P p q Relation.Eq t = absurd (false≢true t)
by_below P p q Relation.Ne t = absurd (false≢true t)
by_below P p q Relation.Lt t = p
by_below P p q Relation.Le t = q
by_below P p q Relation.Gt t = absurd (false≢true t)
by_below P p q Relation.Ge t = absurd (false≢true t)

-- a weight does not stand in a relation and its opposite
pub related_clash : (below : ℤ → ℤ → Bool) (w k : ℤ) (r : Relation) → So (related below r w k) →
    So (related below (opposite r) w k) → ⊥
related_clash below w k =
    by_opposites (λ r. So (related below r w k))
    (λ t n. ⊎_elim (not_of (below w k) (and_parts (not (below w k)) (not (below k w)) t).0)
    (not_of (below k w) (and_parts (not (below w k)) (not (below k w)) t).1) (or_cases (below w k) (below k w) n))
    (λ t n. not_of (below w k) n t) (λ t n. not_of (below k w) n t)

-- where elements of sign 0 are positive those of sign 1 are not
pub grows_alone : (g : Aggregate) (r : Relation) → So (grows g r) → shrinks g r ≡ false
grows_alone Aggregate.Count r s = by_above (λ r. is_below r ≡ false) refl refl r s
grows_alone Aggregate.Sum r s = refl
grows_alone Aggregate.Min r s = refl
grows_alone Aggregate.Max r s = by_above (λ r. shrinks Aggregate.Max r ≡ false) refl refl r s
