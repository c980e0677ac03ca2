-- What one reading of the elements gathers for every relation of max, by an order of the weights, and the truth that a
-- relation and its opposite decide. Assumes nothing.
use Rattle.std.specs.Prelude.{Bool, not, ◌&&◌, ◌||◌, List, ℤ}
use Rattle.laws.specs.Lists.{any}
use Rattle.theory.specs.declared.answer.Truth.{Truth}
use Rattle.theory.specs.Answers.{Answers}
use Rattle.meaning.specs.Reading.{Element}
use Rattle.meaning.specs.declared.codes.Relation.{Relation}
use Rattle.meaning.specs.Truth.{all_possible, decided, definite, opposite, related, some_definite}
use Rattle.judge.specs.declared.extremes.Extremes.{Extremes}

unfoldable pub gathered : (ℤ → ℤ → Bool) → Answers → ℤ → List Element → Extremes
gathered below A k es = record {
  definite = any (definite A) es;
  equal = some_definite (λ w. related below Relation.Eq w k) A es;
  above = some_definite (λ w. related below Relation.Gt w k) A es;
  reaching = some_definite (λ w. related below Relation.Ge w k) A es;
  unequal = all_possible (λ w. related below Relation.Ne w k) A es;
  below = all_possible (λ w. related below Relation.Lt w k) A es;
  within = all_possible (λ w. related below Relation.Le w k) A es;
}

-- one element more, definite or possible, its weight below or above the bound
abbrev pub added : Extremes → Bool → Bool → Bool → Bool → Extremes
added x definite possible below above = record {
  definite = x.definite || definite;
  equal = x.equal || definite && (not below && not above);
  above = x.above || definite && above;
  reaching = x.reaching || definite && not below;
  unequal = x.unequal && (not possible || (below || above));
  below = x.below && (not possible || below);
  within = x.within && (not possible || not above);
}

-- what a relation asks for
abbrev pub picked : Relation → Extremes → Bool
picked Relation.Eq x = x.equal && x.within
picked Relation.Ne x = x.unequal || x.above
picked Relation.Lt x = x.below
picked Relation.Le x = x.within
picked Relation.Gt x = x.above
picked Relation.Ge x = x.reaching

-- the truth of a comparison, by which relations hold
abbrev pub judged : (Relation → Bool) → Relation → Truth
judged holds r = decided (holds r) (holds (opposite r))
