-- What keeps an aggregate's relation: more definite and fewer possible elements. A relation and its opposite never
-- hold at once. Assumes nothing.
use mathlib.Core.Path.{refl}
use mathlib.Core.Bool.{So, false≢true}
use mathlib.Core.List.{List}
use lib.IntN.{ℤ, pos}
use lib.Signed.{lt_z, ◌≤ℤ◌}
use native.Mathlib.Omega.{arith}
use Rattle.std.proofs.lemmas.Int.{ints}
use Rattle.laws.specs.Lists.{In}
use Rattle.theory.specs.Answers.{Answers}
use Rattle.meaning.specs.Reading.{Element}
use Rattle.meaning.specs.declared.codes.Aggregate.{Aggregate}
use Rattle.meaning.specs.declared.codes.Relation.{Relation}
use Rattle.meaning.specs.Truth.{above, attained, holds, mirror, one, opposite, own_weight}
use Rattle.meaning.specs.Refusal.{grows, is_above, shrinks}
use Rattle.meaning.proofs.Relations.{by_opposites, by_below}
pub use Rattle.meaning.proofs.Elements.{Definite, Possible}
use Rattle.meaning.proofs.Sums.{weighed_clash, weighed_keeps, weighed_grows, weighed_shrinks}
use Rattle.meaning.proofs.Extremes.{attained_clash, attained_keeps, attained_grows}

module _ (A B : Answers) (es : List Element) where
  -- A relation that holds still holds with more definite and fewer possible elements.
  pub holds_local : Definite A B es → Possible A B es → (g : Aggregate) (r : Relation) (k : ℤ) →
      So (holds g r A es k) → So (holds g r B es k)
  unfolding holds
  holds_local d p Aggregate.Count r k = weighed_keeps one A B es d p r k
  holds_local d p Aggregate.Sum r k = weighed_keeps own_weight A B es d p r k
  holds_local d p Aggregate.Min r k = attained_keeps above A B es k d p _
  holds_local d p Aggregate.Max r k = attained_keeps lt_z A B es k d p r

  -- a count weighs each element 1
  one_not_negative : (e : Element) → In e es → pos 0 ≤ℤ pos 1
  one_not_negative e i = omega (arith, ints)

  -- Where sign 0 is positive, more definite elements are enough.
  pub holds_grows : (g : Aggregate) (r : Relation) (k : ℤ) → So (grows g r) → Definite A B es →
      So (holds g r A es k) → So (holds g r B es k)
  unfolding holds
  holds_grows Aggregate.Count r k s d = weighed_grows one A B es one_not_negative d r s k
  holds_grows Aggregate.Sum r k s d = absurd (false≢true s)
  holds_grows Aggregate.Min r k s d =
      attained_grows above A B es k d (mirror r) (by_below (λ r. So (is_above (mirror r))) refl refl r s)
  holds_grows Aggregate.Max r k s d = attained_grows lt_z A B es k d r s

  -- Where sign 1 is positive, fewer possible elements are enough.
  pub holds_shrinks : (g : Aggregate) (r : Relation) (k : ℤ) → So (shrinks g r) → Possible A B es →
      So (holds g r A es k) → So (holds g r B es k)
  unfolding holds
  holds_shrinks Aggregate.Count r k s p = weighed_shrinks one A B es one_not_negative p r s k
  holds_shrinks Aggregate.Sum r k s p = absurd (false≢true s)
  holds_shrinks Aggregate.Min r k s p = absurd (false≢true s)
  holds_shrinks Aggregate.Max r k s p = absurd (false≢true s)

-- No relation holds beside its opposite.
pub holds_clash : (A : Answers) (g : Aggregate) (r : Relation) (es : List Element) (k : ℤ) → So (holds g r A es k) →
    So (holds g (opposite r) A es k) → ⊥
unfolding holds
holds_clash A Aggregate.Count r es k = weighed_clash one A es k r
holds_clash A Aggregate.Sum r es k = weighed_clash own_weight A es k r
holds_clash A Aggregate.Min r es k =
    let clash = attained_clash above A es k in
    by_opposites (λ r. So (attained above (mirror r) A es k)) (clash Relation.Eq) (clash Relation.Gt)
    (clash Relation.Lt) r
holds_clash A Aggregate.Max r es k = attained_clash lt_z A es k r
