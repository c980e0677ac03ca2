-- Tables written as bytes, and rules as read laid out as tables: the way back from Format and Reading. Document 01,
-- "The rule book". Assumes nothing.
use Rattle.std.specs.Prelude.{ℕ, suc, ◌+◌, ◌-◌, ◌*◌, ◌/◌, ◌%◌, List, [], ◌∷◌, ◌++◌, map, ℤ, pos, negsuc, length}
use Rattle.laws.specs.Lists.{gather}
use Rattle.meaning.specs.declared.records.Predicate.{Predicate}
use Rattle.meaning.specs.declared.records.Atom.{Atom}
use Rattle.meaning.specs.declared.records.RuleRecord.{RuleRecord}
use Rattle.meaning.specs.declared.records.HypothesisRecord.{HypothesisRecord}
use Rattle.meaning.specs.declared.records.ComparisonRecord.{ComparisonRecord}
use Rattle.meaning.specs.declared.records.ElementRecord.{ElementRecord}
use Rattle.meaning.specs.Format.{Tables, contents, sizes}
use Rattle.meaning.specs.Reading.{Comparison, Element, Hypothesis, Rule}
use Rattle.meaning.specs.declared.codes.Literal.{Literal}
use Rattle.meaning.specs.declared.codes.Aggregate.{Aggregate}
use Rattle.meaning.specs.declared.codes.Kind.{Kind}
use Rattle.meaning.specs.declared.codes.Relation.{Relation}
use Rattle.meaning.specs.Reading.{atom_of}

-- Numbers are little-endian.
abbrev pub u8 : ℕ → List ℕ
u8 n = n % 256 ∷ []

abbrev pub u16 : ℕ → List ℕ
u16 n = u8 n ++ u8 (n / 256)

abbrev pub u32 : ℕ → List ℕ
u32 n = u16 n ++ u16 (n / 65536)

-- two's complement
abbrev pub unsigned : ℤ → ℕ
unsigned (pos n) = n
unsigned (negsuc n) = 4294967295 - n

abbrev pub i32 : ℤ → List ℕ
i32 z = u32 (unsigned z)

-- the bytes of a record, one function for each table
abbrev pub predicate_bytes : Predicate → List ℕ
predicate_bytes p = u8 p.kind ++ u8 p.level

abbrev pub atom_bytes : Atom → List ℕ
atom_bytes x = u16 x.predicate ++ u8 x.given

abbrev pub rule_bytes : RuleRecord → List ℕ
rule_bytes r = u16 r.head ++ u16 r.first ++ u16 r.many

abbrev pub hypothesis_bytes : HypothesisRecord → List ℕ
hypothesis_bytes h = u8 h.sort ++ u16 h.index

abbrev pub comparison_bytes : ComparisonRecord → List ℕ
comparison_bytes c = u8 c.aggregate ++ u8 c.relation ++ i32 c.bound ++ u16 c.first ++ u16 c.many

abbrev pub element_bytes : ElementRecord → List ℕ
element_bytes e = u8 e.sign ++ u16 e.atom ++ i32 e.weight

-- how many records each table has
unfoldable pub counts : Tables → List ℕ
counts t =
    length t.predicates
    ∷ length t.atoms
    ∷ length t.rules
    ∷ length t.hypotheses
    ∷ length t.comparisons
    ∷ length t.elements
    ∷ []

-- the table of contents, by record sizes and counts: the next body starts at `offset`
unfoldable pub entries : ℕ → List ℕ → List ℕ → List ℕ
entries offset [] many = []
entries offset (size ∷ later) [] = []
entries offset (size ∷ later) (n ∷ many) = u32 offset ++ u32 n ++ entries (offset + size * n) later many

-- the six bodies, one after another
unfoldable pub bodies : Tables → List ℕ
bodies t =
    gather predicate_bytes t.predicates
    ++ gather atom_bytes t.atoms
    ++ gather rule_bytes t.rules
    ++ gather hypothesis_bytes t.hypotheses
    ++ gather comparison_bytes t.comparisons
    ++ gather element_bytes t.elements

-- tables as a book
unfoldable pub book_of : Tables → List ℕ
book_of t = entries contents sizes (counts t) ++ bodies t

-- The codes: what Reading's functions from codes are asked.
abbrev pub kind_code : Kind → ℕ
kind_code Kind.Certain = 0
kind_code Kind.Open = 1
kind_code Kind.Complete = 2
kind_code Kind.Closed = 3

abbrev pub aggregate_code : Aggregate → ℕ
aggregate_code Aggregate.Count = 0
aggregate_code Aggregate.Sum = 1
aggregate_code Aggregate.Min = 2
aggregate_code Aggregate.Max = 3

-- =, ≠, <, ≤, >, ≥
abbrev pub relation_code : Relation → ℕ
relation_code Relation.Eq = 0
relation_code Relation.Ne = 1
relation_code Relation.Lt = 2
relation_code Relation.Le = 3
relation_code Relation.Gt = 4
relation_code Relation.Ge = 5

-- 0 atom, 1 not atom: the sign of an element, and the sort of a hypothesis that is a literal
abbrev pub sign_code : Literal → ℕ
sign_code (Literal.Plain a) = 0
sign_code (Literal.Negated a) = 1

-- rules whose hypotheses start at `first`, each next one's where the last one's ended
unfoldable pub rule_records : ℕ → List Rule → List RuleRecord
rule_records first [] = []
rule_records first (r ∷ rules) =
    let many = length r.body in
    record { head = r.head; first = first; many = many } ∷ rule_records (first + many) rules

-- hypotheses, of which the next comparison has the number `index`
unfoldable pub hypothesis_records : ℕ → List Hypothesis → List HypothesisRecord
hypothesis_records index [] = []
hypothesis_records index (Hypothesis.literal l ∷ hs) =
    record { sort = sign_code l; index = atom_of l } ∷ hypothesis_records index hs
hypothesis_records index (Hypothesis.comparison c ∷ hs) =
    record { sort = 2; index = index } ∷ hypothesis_records (suc index) hs

-- comparisons whose elements start at `first`, each next one's where the last one's ended
unfoldable pub comparison_records : ℕ → List Comparison → List ComparisonRecord
comparison_records first [] = []
comparison_records first (c ∷ cs) =
    let many = length c.elements in
    record {
      aggregate = aggregate_code c.aggregate;
      relation = relation_code c.relation;
      bound = c.bound;
      first = first;
      many = many;
    }
    ∷ comparison_records (first + many) cs

-- one element
abbrev pub element_record : Element → ElementRecord
element_record e = record { sign = sign_code e.literal; atom = atom_of e.literal; weight = e.weight }

-- the comparisons among some hypotheses
abbrev pub comparisons_in : Hypothesis → List Comparison
comparisons_in (Hypothesis.literal l) = []
comparisons_in (Hypothesis.comparison c) = c ∷ []

abbrev pub body_of : Rule → List Hypothesis
body_of r = r.body

abbrev pub elements_in : Comparison → List Element
elements_in c = c.elements

-- Rules as read, laid out as tables: their hypotheses, comparisons and elements one after another, in order. A range of
-- none starts at the count so far.
unfoldable pub lay : List Predicate → List Atom → List Rule → Tables
lay predicates atoms rules =
    let hypotheses = gather body_of rules in
    let comparisons = gather comparisons_in hypotheses in
    record {
      predicates = predicates;
      atoms = atoms;
      rules = rule_records 0 rules;
      hypotheses = hypothesis_records 0 hypotheses;
      comparisons = comparison_records 0 comparisons;
      elements = map element_record (gather elements_in comparisons);
    }
