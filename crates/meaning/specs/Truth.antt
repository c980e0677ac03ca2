-- When a literal, a comparison and a rule body are true, false or undefined. Document 01, "When a comparison is true".
-- Here: max ≠ asks for a definite element. Assumes nothing.
use Rattle.std.specs.Prelude.{Bool, not, cond, ◌&&◌, ◌||◌, List, [], ◌∷◌, ℤ, pos, ◌+ℤ◌}
use Rattle.std.specs.Int.Signed.{lt_z}
use Rattle.laws.specs.Lists.{all, any}
use Rattle.theory.specs.Truth.{flip, is_true, is_false}
use Rattle.theory.specs.declared.answer.Truth.{Truth}
use Rattle.theory.specs.Answers.{Answers}
use Rattle.meaning.specs.Reading.{Comparison, Element, Hypothesis}
use Rattle.meaning.specs.declared.codes.Literal.{Literal}
use Rattle.meaning.specs.declared.codes.Aggregate.{Aggregate}
use Rattle.meaning.specs.declared.codes.Relation.{Relation}

unfoldable pub literal_truth : Answers → Literal → Truth
literal_truth A (Literal.Plain a) = A a
literal_truth A (Literal.Negated a) = flip (A a)

-- An element is definite if its literal is true, possible if its literal is not false.
abbrev pub element_truth : Answers → Element → Truth
element_truth A e = literal_truth A e.literal

abbrev pub definite : Answers → Element → Bool
definite A e = is_true (element_truth A e)

abbrev pub possible : Answers → Element → Bool
possible A e = not (is_false (element_truth A e))

-- w stands in a relation to k, by the order `below`
abbrev pub related : (ℤ → ℤ → Bool) → Relation → ℤ → ℤ → Bool
related below Relation.Eq w k = not (below w k) && not (below k w)
related below Relation.Ne w k = below w k || below k w
related below Relation.Lt w k = below w k
related below Relation.Le w k = not (below k w)
related below Relation.Gt w k = below k w
related below Relation.Ge w k = not (below w k)

-- Count and sum lie between a least and a most, by what each element weighs. Count is sum with weights of 1.
abbrev pub own_weight : Element → ℤ
own_weight e = e.weight

abbrev pub one : Element → ℤ
one e = pos 1

-- what an element adds to the least: its weight if definite, its negative weight if undefined
abbrev pub least_share : Truth → ℤ → ℤ
least_share Truth.Undefined w = cond (lt_z w (pos 0)) w (pos 0)
least_share Truth.True w = w
least_share Truth.False w = pos 0

-- and to the most: its weight if definite, its positive weight if undefined
abbrev pub most_share : Truth → ℤ → ℤ
most_share Truth.Undefined w = cond (lt_z (pos 0) w) w (pos 0)
most_share Truth.True w = w
most_share Truth.False w = pos 0

abbrev pub total : (Element → ℤ) → List Element → ℤ
total share [] = pos 0
total share (e ∷ es) = share e +ℤ total share es

unfoldable pub least : (Element → ℤ) → Answers → List Element → ℤ
least weigh A es = total (λ e. least_share (element_truth A e) (weigh e)) es

unfoldable pub most : (Element → ℤ) → Answers → List Element → ℤ
most weigh A es = total (λ e. most_share (element_truth A e) (weigh e)) es

unfoldable pub between : Relation → ℤ → ℤ → ℤ → Bool
between Relation.Eq low high k = related lt_z Relation.Eq low k && related lt_z Relation.Eq high k
between Relation.Ne low high k = related lt_z Relation.Gt low k || related lt_z Relation.Lt high k
between Relation.Lt low high k = related lt_z Relation.Lt high k
between Relation.Le low high k = related lt_z Relation.Le high k
between Relation.Gt low high k = related lt_z Relation.Gt low k
between Relation.Ge low high k = related lt_z Relation.Ge low k

-- count or sum, by what each element weighs
abbrev pub weighed : (Element → ℤ) → Relation → Answers → List Element → ℤ → Bool
weighed weigh r A es k = between r (least weigh A es) (most weigh A es) k

-- Max, by an order of the weights; min is max by the reversed order, its relation mirrored.
abbrev pub some_definite : (ℤ → Bool) → Answers → List Element → Bool
some_definite test A es = any (λ e. definite A e && test e.weight) es

abbrev pub all_possible : (ℤ → Bool) → Answers → List Element → Bool
all_possible test A es = all (λ e. not (possible A e) || test e.weight) es

unfoldable pub extreme : (ℤ → ℤ → Bool) → Relation → Answers → List Element → ℤ → Bool
extreme below Relation.Eq A es k =
    some_definite (λ w. related below Relation.Eq w k) A es && all_possible (λ w. related below Relation.Le w k) A es
extreme below Relation.Ne A es k =
    all_possible (λ w. related below Relation.Ne w k) A es || some_definite (λ w. related below Relation.Gt w k) A es
extreme below Relation.Lt A es k = all_possible (λ w. related below Relation.Lt w k) A es
extreme below Relation.Le A es k = all_possible (λ w. related below Relation.Le w k) A es
extreme below Relation.Gt A es k = some_definite (λ w. related below Relation.Gt w k) A es
extreme below Relation.Ge A es k = some_definite (λ w. related below Relation.Ge w k) A es

-- never true without a definite element
abbrev pub attained : (ℤ → ℤ → Bool) → Relation → Answers → List Element → ℤ → Bool
attained below r A es k = any (definite A) es && extreme below r A es k

-- the reversed order
abbrev pub above : ℤ → ℤ → Bool
above w k = lt_z k w

abbrev pub mirror : Relation → Relation
mirror Relation.Eq = Relation.Eq
mirror Relation.Ne = Relation.Ne
mirror Relation.Lt = Relation.Gt
mirror Relation.Le = Relation.Ge
mirror Relation.Gt = Relation.Lt
mirror Relation.Ge = Relation.Le

abbrev pub opposite : Relation → Relation
opposite Relation.Eq = Relation.Ne
opposite Relation.Ne = Relation.Eq
opposite Relation.Lt = Relation.Ge
opposite Relation.Le = Relation.Gt
opposite Relation.Gt = Relation.Le
opposite Relation.Ge = Relation.Lt

unfoldable pub holds : Aggregate → Relation → Answers → List Element → ℤ → Bool
holds Aggregate.Count r A es k = weighed one r A es k
holds Aggregate.Sum r A es k = weighed own_weight r A es k
holds Aggregate.Min r A es k = attained above (mirror r) A es k
holds Aggregate.Max r A es k = attained lt_z r A es k

abbrev pub decided : Bool → Bool → Truth
decided t f = cond t Truth.True (cond f Truth.False Truth.Undefined)

-- A comparison is false when its opposite is true, else undefined.
unfoldable pub comparison_truth : Answers → Comparison → Truth
comparison_truth A c =
    decided (holds c.aggregate c.relation A c.elements c.bound)
    (holds c.aggregate (opposite c.relation) A c.elements c.bound)

unfoldable pub hypothesis_truth : Answers → Hypothesis → Truth
hypothesis_truth A (Hypothesis.literal l) = literal_truth A l
hypothesis_truth A (Hypothesis.comparison c) = comparison_truth A c

-- A rule body is true when all hypotheses are true and false when one is false.
abbrev pub meet : Truth → Truth → Truth
meet Truth.Undefined y = cond (is_false y) Truth.False Truth.Undefined
meet Truth.True y = y
meet Truth.False y = Truth.False

unfoldable pub body_truth : Answers → List Hypothesis → Truth
body_truth A [] = Truth.True
body_truth A (h ∷ hs) = meet (hypothesis_truth A h) (body_truth A hs)
