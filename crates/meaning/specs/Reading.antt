-- Rules as read: a rule is its head and its hypotheses, a comparison carries its own elements. Document 01, "The rule
-- book", the meaning of the codes and ranges. Books that read alike have one model, whatever their bytes. Assumes
-- nothing.
use Rattle.std.specs.Prelude.{ℕ, zero, suc, ◌+◌, Bool, true, false, List, [], ◌∷◌, map, ℤ, get_or}
use Rattle.std.proofs.Math.Seq.{slice}
use Rattle.std.specs.declared.option.Option.{Option}
use Rattle.std.specs.declared.option.Option.TheVariants.{None, Some}
use Rattle.theory.specs.declared.answer.Truth.{Truth}
pub use Rattle.theory.specs.Truth.{code_of, truth_of}
use Rattle.meaning.specs.declared.records.Predicate.{Predicate}
use Rattle.meaning.specs.declared.records.Atom.{Atom}
use Rattle.meaning.specs.declared.records.RuleRecord.{RuleRecord}
use Rattle.meaning.specs.declared.records.HypothesisRecord.{HypothesisRecord}
use Rattle.meaning.specs.declared.records.ComparisonRecord.{ComparisonRecord}
use Rattle.meaning.specs.declared.records.ElementRecord.{ElementRecord}
use Rattle.meaning.specs.Format.{Tables, no_comparison, no_predicate}
pub use Rattle.meaning.specs.declared.codes.Kind.{Kind}
pub use Rattle.meaning.specs.declared.codes.Aggregate.{Aggregate}
pub use Rattle.meaning.specs.declared.codes.Relation.{Relation}
pub use Rattle.meaning.specs.declared.codes.Literal.{Literal}
pub use Rattle.meaning.specs.declared.codes.Literal.TheVariants.{Plain, Negated}
pub use Rattle.meaning.specs.declared.codes.Sort.{Sort}

abbrev pub atom_of : Literal → ℕ
atom_of (Plain a) = a
atom_of (Negated a) = a

pub record Element : Type 0 where
  pub literal : Literal
  pub weight : ℤ

pub record Comparison : Type 0 where
  pub aggregate : Aggregate
  pub relation : Relation
  pub bound : ℤ
  pub elements : List Element

pub data Hypothesis : Type 0 where
  literal : Literal → Hypothesis
  comparison : Comparison → Hypothesis

pub record Rule : Type 0 where
  pub head : ℕ
  pub body : List Hypothesis

-- what a book says but for its levels and given atoms: its rules, and the kind of each atom
pub record Reading : Type 0 where
  pub rules : List Rule
  pub kinds : List Kind

-- What the codes mean. A code that is not listed reads as the last, a given byte as not given; refusal 4 keeps it out.
abbrev pub kind_of : ℕ → Kind
kind_of code = get_or (Kind.Certain ∷ Kind.Open ∷ Kind.Complete ∷ Kind.Closed ∷ []) code Kind.Closed

abbrev pub aggregate_of : ℕ → Aggregate
aggregate_of code = get_or (Aggregate.Count ∷ Aggregate.Sum ∷ Aggregate.Min ∷ Aggregate.Max ∷ []) code Aggregate.Max

abbrev pub relation_of : ℕ → Relation
relation_of code =
    get_or (Relation.Eq ∷ Relation.Ne ∷ Relation.Lt ∷ Relation.Le ∷ Relation.Gt ∷ Relation.Ge ∷ []) code Relation.Ge

abbrev pub sort_of : ℕ → Sort
sort_of code = get_or (Sort.Atom ∷ Sort.NotAtom ∷ Sort.Comparison ∷ []) code Sort.Comparison

abbrev pub literal_of : ℕ → ℕ → Literal
literal_of zero a = Plain a
literal_of (suc sign) a = Negated a

-- the literal that a hypothesis is about, by its sort, if that is no comparison
abbrev pub literal_in : ℕ → ℕ → Option Literal
literal_in zero i = Some (Plain i)
literal_in (suc zero) i = Some (Negated i)
literal_in (suc (suc sort)) i = None

-- what a rule and a comparison range over; ranges may overlap
abbrev pub range : {X : Type 0} → ℕ → ℕ → List X → List X
range first many xs = slice first (first + many) xs

unfoldable pub element_of : ElementRecord → Element
element_of e = record { literal = literal_of e.sign e.atom; weight = e.weight }

unfoldable pub elements_of : Tables → ComparisonRecord → List ElementRecord
elements_of t c = range c.first c.many t.elements

unfoldable pub comparison_of : Tables → ComparisonRecord → Comparison
comparison_of t c = record {
  aggregate = aggregate_of c.aggregate;
  relation = relation_of c.relation;
  bound = c.bound;
  elements = map element_of (elements_of t c);
}

-- by sort: 0 atom, 1 not atom, 2 comparison
unfoldable pub hypothesis_of : Tables → ℕ → ℕ → Hypothesis
hypothesis_of t zero i = literal (Plain i)
hypothesis_of t (suc zero) i = literal (Negated i)
hypothesis_of t (suc (suc sort)) i = comparison (comparison_of t (get_or t.comparisons i no_comparison))

abbrev pub hypothesis_in : Tables → HypothesisRecord → Hypothesis
hypothesis_in t h = hypothesis_of t h.sort h.index

unfoldable pub rule_of : Tables → RuleRecord → Rule
rule_of t r = record { head = r.head; body = map (hypothesis_in t) (range r.first r.many t.hypotheses) }

abbrev pub predicate_of : Tables → Atom → Predicate
predicate_of t x = get_or t.predicates x.predicate no_predicate

abbrev pub kind_in : Tables → Atom → Kind
kind_in t x = kind_of (predicate_of t x).kind

abbrev pub level_in : Tables → Atom → ℕ
level_in t x = (predicate_of t x).level

abbrev pub given_in : Atom → Truth
given_in x = truth_of x.given

unfoldable pub reading : Tables → Reading
reading t = record { rules = map (rule_of t) t.rules; kinds = map (kind_in t) t.atoms }

-- beside the rules: the level of each atom, and what is given of it
unfoldable pub levels_of : Tables → List ℕ
levels_of t = map (level_in t) t.atoms

unfoldable pub given_of : Tables → List Truth
given_of t = map given_in t.atoms

-- Levels run from 0 to 127. An atom that no table has is open and beyond every level.
abbrev pub level_count : ℕ
level_count = 128

abbrev pub kind_at : List Kind → ℕ → Kind
kind_at kinds a = get_or kinds a Kind.Open

abbrev pub level_at : List ℕ → ℕ → ℕ
level_at levels a = get_or levels a level_count

abbrev pub is_certain : Kind → Bool
is_certain Kind.Certain = true
is_certain Kind.Open = false
is_certain Kind.Complete = false
is_certain Kind.Closed = false

abbrev pub is_open : Kind → Bool
is_open Kind.Certain = false
is_open Kind.Open = true
is_open Kind.Complete = false
is_open Kind.Closed = false

abbrev pub is_closed : Kind → Bool
is_closed Kind.Certain = false
is_closed Kind.Open = false
is_closed Kind.Complete = false
is_closed Kind.Closed = true

-- complete or closed: what step (b) may make false
abbrev pub is_complete : Kind → Bool
is_complete Kind.Certain = false
is_complete Kind.Open = false
is_complete Kind.Complete = true
is_complete Kind.Closed = true
