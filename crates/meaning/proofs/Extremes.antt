-- Max by any order of the weights, of which min is an instance: what keeps a relation, and that none holds beside its
-- opposite. Assumes nothing.
use mathlib.Core.Logic.{⊎_elim}
use mathlib.Core.Bool.{Bool, not, So}
use mathlib.Core.List.{List}
use lib.IntN.{ℤ}
use Rattle.std.proofs.lemmas.Bool.{and_parts, or_cases}
use Rattle.laws.specs.Lists.{any}
use Rattle.laws.proofs.Tests.{not_of, and_map, or_map, not_map}
use Rattle.laws.proofs.Entries.{any_entry, all_entry, any_map, all_map}
use Rattle.theory.specs.Answers.{Answers}
use Rattle.meaning.specs.Reading.{Element}
use Rattle.meaning.specs.declared.codes.Relation.{Relation}
use Rattle.meaning.specs.Truth.{all_possible, attained, definite, extreme, opposite, possible, related}
use Rattle.meaning.specs.Truth.{some_definite}
use Rattle.meaning.specs.Refusal.{is_above}
use Rattle.meaning.proofs.Relations.{by_opposites, by_above, related_clash}
use Rattle.meaning.proofs.Elements.{Definite, Possible, definite_possible}

-- some definite weight, and each possible one, stands in a relation to k
abbrev some : (ℤ → ℤ → Bool) → ℤ → Answers → List Element → Relation → Bool
some below k A es r = some_definite (λ w. related below r w k) A es

abbrev every : (ℤ → ℤ → Bool) → ℤ → Answers → List Element → Relation → Bool
every below k A es r = all_possible (λ w. related below r w k) A es

module _ (below : ℤ → ℤ → Bool) (A : Answers) (es : List Element) (k : ℤ) where
  -- a definite weight is a possible one
  some_every_clash : (r : Relation) → So (some below k A es r) → So (every below k A es (opposite r)) → ⊥
  some_every_clash r s t =
      let (e, i, x) = any_entry _ es s in
      let there = definite_possible A e (and_parts (definite A e) (related below r e.weight k) x).0 in
      ⊎_elim (λ n. not_of (possible A e) n there)
      (related_clash below e.weight k r (and_parts (definite A e) (related below r e.weight k) x).1)
      (or_cases (not (possible A e)) (related below (opposite r) e.weight k) (all_entry _ es t e i))

  -- no relation of the greatest holds beside its opposite
  extreme_clash : (r : Relation) → So (extreme below r A es k) → So (extreme below (opposite r) A es k) → ⊥
  unfolding extreme
  extreme_clash =
      by_opposites (λ r. So (extreme below r A es k))
      (λ t n. let here = (and_parts (some below k A es Relation.Eq) (every below k A es Relation.Le) t).0 in
      let none = (and_parts (some below k A es Relation.Eq) (every below k A es Relation.Le) t).1 in
      ⊎_elim (some_every_clash Relation.Eq here) (λ g. some_every_clash Relation.Gt g none)
      (or_cases (every below k A es Relation.Ne) (some below k A es Relation.Gt) n))
      (λ t n. some_every_clash Relation.Ge n t) (some_every_clash Relation.Gt)

  pub attained_clash : (r : Relation) → So (attained below r A es k) → So (attained below (opposite r) A es k) → ⊥
  attained_clash r t n =
      extreme_clash r (and_parts (any (definite A) es) (extreme below r A es k) t).1
      (and_parts (any (definite A) es) (extreme below (opposite r) A es k) n).1

module _ (below : ℤ → ℤ → Bool) (A B : Answers) (es : List Element) (k : ℤ) (d : Definite A B es) where
  -- more definite elements keep what some do, and fewer possible ones what every one does
  some_keeps : (r : Relation) → So (some below k A es r) → So (some below k B es r)
  some_keeps r = any_map _ _ es (λ e i. and_map (definite A e) _ (definite B e) _ (d e i) (λ t. t))

  every_keeps : Possible A B es → (r : Relation) → So (every below k A es r) → So (every below k B es r)
  every_keeps p r =
      all_map _ _ es (λ e i. let fewer = not_map (possible A e) (possible B e) (p e i) in
      or_map (not (possible A e)) _ (not (possible B e)) _ fewer (λ t. t))

  -- Above, a relation asks for definite elements alone.
  extreme_grows : (r : Relation) → So (is_above r) → So (extreme below r A es k) → So (extreme below r B es k)
  unfolding extreme
  extreme_grows =
      by_above (λ r. So (extreme below r A es k) → So (extreme below r B es k)) (some_keeps Relation.Gt)
      (some_keeps Relation.Ge)

  -- With fewer possible elements every relation is kept.
  extreme_keeps : Possible A B es → (r : Relation) → So (extreme below r A es k) → So (extreme below r B es k)
  unfolding extreme
  extreme_keeps p Relation.Eq t = and_map _ _ _ _ (some_keeps Relation.Eq) (every_keeps p Relation.Le) t
  extreme_keeps p Relation.Ne t = or_map _ _ _ _ (every_keeps p Relation.Ne) (some_keeps Relation.Gt) t
  extreme_keeps p Relation.Lt t = every_keeps p Relation.Lt t
  extreme_keeps p Relation.Le t = every_keeps p Relation.Le t
  extreme_keeps p Relation.Gt t = some_keeps Relation.Gt t
  extreme_keeps p Relation.Ge t = some_keeps Relation.Ge t

  pub attained_grows : (r : Relation) → So (is_above r) → So (attained below r A es k) → So (attained below r B es k)
  attained_grows r s = and_map _ _ _ _ (any_map _ _ es d) (extreme_grows r s)

  pub attained_keeps : Possible A B es → (r : Relation) → So (attained below r A es k) → So (attained below r B es k)
  attained_keeps p r = and_map _ _ _ _ (any_map _ _ es d) (extreme_keeps p r)
