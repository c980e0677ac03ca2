-- The records of a book's tables, by their numbers. Assumes nothing.
use Rattle.std.specs.Prelude.{List, ℕ, get_or}
use Rattle.meaning.specs.Format.{no_atom}
use Rattle.meaning.specs.declared.records.Atom.{Atom}
use Rattle.meaning.specs.declared.records.ComparisonRecord.{ComparisonRecord}
use Rattle.meaning.specs.declared.records.ElementRecord.{ElementRecord}
use Rattle.meaning.specs.declared.records.HypothesisRecord.{HypothesisRecord}
use Rattle.meaning.specs.declared.records.Predicate.{Predicate}
use Rattle.meaning.specs.declared.records.RuleRecord.{RuleRecord}
use Rattle.meaning.specs.Format.{no_comparison, no_element, no_hypothesis, no_predicate, no_rule, tables}
use Rattle.meaning.specs.Reading.{Comparison, Hypothesis, Rule, comparison_of, hypothesis_of, kind_at, level_at}
use Rattle.meaning.specs.declared.codes.Kind.{Kind}
use Rattle.meaning.specs.Reading.{levels_of, reading, rule_of}

-- record i of each table
abbrev pub predicate_in : List ℕ → ℕ → Predicate
predicate_in b i = get_or (tables b).predicates i no_predicate

abbrev pub atom_in : List ℕ → ℕ → Atom
atom_in b i = get_or (tables b).atoms i no_atom

abbrev pub rule_in : List ℕ → ℕ → RuleRecord
rule_in b i = get_or (tables b).rules i no_rule

abbrev pub hypothesis_in : List ℕ → ℕ → HypothesisRecord
hypothesis_in b i = get_or (tables b).hypotheses i no_hypothesis

abbrev pub comparison_in : List ℕ → ℕ → ComparisonRecord
comparison_in b i = get_or (tables b).comparisons i no_comparison

abbrev pub element_in : List ℕ → ℕ → ElementRecord
element_in b i = get_or (tables b).elements i no_element

-- what rule r, hypothesis h and comparison c of a book say, as read
abbrev pub rule_read : List ℕ → ℕ → Rule
rule_read b r = rule_of (tables b) (rule_in b r)

abbrev pub hypothesis_read : List ℕ → ℕ → Hypothesis
hypothesis_read b h = hypothesis_of (tables b) (hypothesis_in b h).sort (hypothesis_in b h).index

abbrev pub comparison_read : List ℕ → ℕ → Comparison
comparison_read b c = comparison_of (tables b) (comparison_in b c)

-- the kind of atom a, and its level
abbrev pub kind_read : List ℕ → ℕ → Kind
kind_read b a = kind_at (reading (tables b)).kinds a

abbrev pub level_read : List ℕ → ℕ → ℕ
level_read b a = level_at (levels_of (tables b)) a
