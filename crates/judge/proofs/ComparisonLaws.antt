-- The truth of a comparison by its record. Assumes nothing.
use mathlib.Core.Path.{◌≡◌, ◌∙◌}
use mathlib.Core.Bool.{Bool}
use mathlib.Core.List.{List}
use Prim.Native.Nat.{ℕ, ◌+◌}
use Rattle.theory.specs.declared.answer.Truth.{Truth}
use Rattle.meaning.specs.declared.codes.Aggregate.{Aggregate}
use Rattle.meaning.specs.declared.codes.Relation.{Relation}
use Rattle.meaning.specs.declared.records.ComparisonRecord.{ComparisonRecord}
use Rattle.meaning.specs.Reading.{aggregate_of, comparison_of, elements_of, relation_of}
use Rattle.meaning.specs.Truth.{comparison_truth, holds}
use Rattle.book.specs.Records.{comparison_in, comparison_read}
use Rattle.judge.specs.Gathered.{judged}
use Rattle.judge.specs.Held.{held}
use Rattle.judge.specs.Ranges.{elements_read}

pub comparison_is : (b : List ℕ) (W : List Truth) (c : ℕ) (x : ComparisonRecord) (g h : Aggregate) (t : Truth) →
    x ≡ comparison_in b c → g ≡ aggregate_of x.aggregate → g ≡ h →
    (let es = elements_read b x.first (x.first + x.many) in
    let test : Relation → Bool = λ r. holds h r (held W) es x.bound in
    t ≡ judged test (relation_of x.relation)) →
    t ≡ comparison_truth (held W) (comparison_read b c)
unfolding comparison_truth comparison_of elements_of elements_read
comparison_is b W c x g h t e p q r = r ∙ rw (← q, p, e)
