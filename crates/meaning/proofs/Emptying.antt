-- Three small examples that document 01 argues from: why sign 1 is not positive in max <, ≤ and min >, ≥; why max ≠
-- asks for a definite element; and slip 3. Assumes nothing.
use Prim.Native.Nat.{ℕ}
use mathlib.Core.Path.{◌≡◌, refl}
use mathlib.Core.Bool as B
use mathlib.Core.List.{List, [], ◌∷◌}
use lib.IntN.{pos}
use lib.Signed.{lt_z}
use Rattle.theory.specs.declared.answer.Truth.TheVariants.{False, True, Undefined}
use Rattle.theory.specs.declared.answer.Truth.{Truth}
use Rattle.meaning.specs.Reading.{Comparison, Reading}
use Rattle.meaning.specs.declared.codes.Literal.{Literal}
use Rattle.meaning.specs.declared.codes.Literal.TheVariants.{Negated, Plain}
use Rattle.meaning.specs.declared.codes.Aggregate.{Aggregate}
use Rattle.meaning.specs.declared.codes.Relation.{Relation}
use Rattle.meaning.specs.declared.codes.Kind.TheVariants.{Closed}
use Rattle.meaning.specs.Truth.{all_possible, comparison_truth, related}
use Rattle.meaning.specs.Model.{answers_of, derived, falls, model, round, unfounded}
use Rattle.meaning.specs.Examples.Notation.{◌for◌, ◌⇐◌, is}
use Rattle.meaning.proofs.Examples.{everything}

-- a comparison over the atom 0 with a weight, in one of two signs
abbrev pub single : Aggregate → ℕ → (ℕ → Literal) → Relation → ℕ → Comparison
single aggregate weight sign relation bound =
    record { aggregate = aggregate; relation = relation; bound = pos bound; elements = pos weight for sign 0 ∷ [] }

-- what it comes to when the atom has this answer
abbrev pub at : Truth → Comparison → Truth
at answer c = comparison_truth (answers_of (answer ∷ [])) c

-- Emptying the set turns true into an error: with b false a comparison of not b is true, and a head could be concluded
-- from it; with b true the set is empty, the comparison undefined, and the head has no ground any more. It is not true
-- before b is false either. So it is true only if b counts as false first, and within a certain level b may yet become
-- true: that is what refusal 10 excludes.
pub record Emptied (c : Comparison) : Type 0 where
  pub before : at Undefined c ≡ Undefined
  pub counted_false : at False c ≡ True
  pub once_true : at True c ≡ Undefined

-- max{1: not b} ≤ 3 and < 3
pub max_le : Emptied (single Aggregate.Max 1 Negated Relation.Le 3)
unfolding everything
max_le = record { before = refl; counted_false = refl; once_true = refl }

pub max_lt : Emptied (single Aggregate.Max 1 Negated Relation.Lt 3)
unfolding everything
max_lt = record { before = refl; counted_false = refl; once_true = refl }

-- min{5: not b} ≥ 3 and > 3
pub min_ge : Emptied (single Aggregate.Min 5 Negated Relation.Ge 3)
unfolding everything
min_ge = record { before = refl; counted_false = refl; once_true = refl }

pub min_gt : Emptied (single Aggregate.Min 5 Negated Relation.Gt 3)
unfolding everything
min_gt = record { before = refl; counted_false = refl; once_true = refl }

-- Max ≠ asks for a definite element. Without that, max{5: q} ≠ 3 would be true while q is undefined, since no possible
-- weight is 3; then q false empties the set, there is no max, and the answer would be taken back.
abbrev pub not_three : Comparison
not_three = single Aggregate.Max 5 Plain Relation.Ne 3

-- no possible weight is 3
abbrev pub none_is_three : Truth → B.Bool
none_is_three answer =
    all_possible (λ w. related lt_z Relation.Ne w (pos 3)) (answers_of (answer ∷ [])) not_three.elements

-- the test that passes, and what the comparison comes to as q is not given, given true and given false
pub record NotThree : Type 0 where
  pub passes : none_is_three Undefined ≡ B.true
  pub not_given : at Undefined not_three ≡ Undefined
  pub given_true : at True not_three ≡ True
  pub given_false : at False not_three ≡ Undefined

-- so it is
pub max_ne : NotThree
unfolding everything
max_ne = record { passes = refl; not_given = refl; given_true = refl; given_false = refl }

-- Slip 3: for closed p ← p, "p true" reproduces itself too. Where p is true its rule derives it, nothing makes it false
-- and a round changes nothing; yet the model has p false.
abbrev pub itself : Reading
itself = record { rules = 0 ⇐ is 0 ∷ []; kinds = Closed ∷ [] }

-- p stands at level 0
abbrev pub levels : List ℕ
levels = 0 ∷ []

-- answers with p true
abbrev pub claimed : List Truth
claimed = True ∷ []

-- what they have, and what the model has
pub record Reproduced : Type 0 where
  pub derives : derived itself (answers_of claimed) 0 ≡ B.true
  pub keeps : falls itself claimed (unfounded itself levels 0 claimed) 0 ≡ B.false
  pub repeats : round itself levels 0 claimed ≡ claimed
  pub modelled : model itself levels (Undefined ∷ []) ≡ False ∷ []

-- so it is
pub slip3 : Reproduced
unfolding everything
slip3 = record { derives = refl; keeps = refl; repeats = refl; modelled = refl }
