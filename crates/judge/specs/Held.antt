-- Answers as they are held in memory, the truths of comparisons at them, and a rule body by its records. Assumes
-- nothing.
use Rattle.std.specs.Prelude.{◌≡◌, ℕ, ◌<◌, List, [], ◌∷◌, length, get_or}
use Rattle.std.specs.declared.option.Option.{Option}
use Rattle.std.specs.declared.option.Option.TheVariants.{None, Some}
use Rattle.theory.specs.Truth.{flip}
use Rattle.theory.specs.declared.answer.Truth.{Truth}
use Rattle.theory.specs.Answers.{Answers}
use Rattle.meaning.specs.Format.{comparison_count, tables}
use Rattle.meaning.specs.declared.records.HypothesisRecord.{HypothesisRecord}
use Rattle.meaning.specs.declared.codes.Sort.{Sort}
use Rattle.meaning.specs.Reading.{range, sort_of}
use Rattle.meaning.specs.Truth.{comparison_truth, meet}
use Rattle.book.specs.Records.{comparison_read, rule_in}

-- one answer an atom; an atom past their end is undefined
unfoldable pub held : List Truth → Answers
held W a = get_or W a Truth.Undefined

-- the truth of each comparison at what is held
abbrev pub fresh_at : List ℕ → List Truth → Answers
fresh_at b W c = comparison_truth (held W) (comparison_read b c)

-- K has it for each comparison that was asked for
pub record Asked (b : List ℕ) (W : List Truth) (K : List (Option Truth)) : Type 0 where
  pub long : length K ≡ 512
  pub truths : (c : ℕ) (x : Truth) → c < comparison_count b → get_or K c None ≡ Some x → x ≡ fresh_at b W c

-- a hypothesis at answers A, comparison c having the truth K c
abbrev pub sort_truth : Answers → Answers → Sort → ℕ → Truth
sort_truth A K Sort.Atom i = A i
sort_truth A K Sort.NotAtom i = flip (A i)
sort_truth A K Sort.Comparison i = K i

abbrev pub record_truth : Answers → Answers → HypothesisRecord → Truth
record_truth A K h = sort_truth A K (sort_of h.sort) h.index

unfoldable pub records_truth : Answers → Answers → List HypothesisRecord → Truth
records_truth A K [] = Truth.True
records_truth A K (h ∷ hs) = meet (record_truth A K h) (records_truth A K hs)

-- the hypotheses of rule r
abbrev pub rule_records : List ℕ → ℕ → List HypothesisRecord
rule_records b r = range (rule_in b r).first (rule_in b r).many (tables b).hypotheses
