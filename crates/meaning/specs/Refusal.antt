-- The refusals 1 to 12 in their order, each with its place. Document 01, "Refusals and their order". Assumes nothing.
use Rattle.std.specs.Prelude.{ℕ, suc, ◌+◌, ◌*◌, Bool, true, false, not, cond, ◌&&◌, ◌||◌, List, [], ◌∷◌, ◌++◌, map}
use Rattle.std.specs.Prelude.{eqb, ltb, leb, length, take}
use Rattle.std.specs.Bool.{beq}
use Rattle.std.proofs.Math.Option.{Option, none, some}
use Rattle.laws.specs.Lists.{any, gather, seek, twice}
use Rattle.meaning.specs.declared.records.Predicate.{Predicate}
use Rattle.meaning.specs.declared.records.Atom.{Atom}
use Rattle.meaning.specs.declared.records.RuleRecord.{RuleRecord}
use Rattle.meaning.specs.declared.records.HypothesisRecord.{HypothesisRecord}
use Rattle.meaning.specs.declared.records.ComparisonRecord.{ComparisonRecord}
use Rattle.meaning.specs.declared.records.ElementRecord.{ElementRecord}
use Rattle.meaning.specs.Format.{Tables, contents, count_of, end, limits, offset_of, sizes, start, tables}
use Rattle.meaning.specs.Reading.{Comparison, Element, Hypothesis, Reading}
use Rattle.meaning.specs.declared.codes.Literal.{Literal}
use Rattle.meaning.specs.declared.codes.Aggregate.{Aggregate}
use Rattle.meaning.specs.declared.codes.Kind.{Kind}
use Rattle.meaning.specs.declared.codes.Relation.{Relation}
use Rattle.meaning.specs.Reading.{Rule, atom_of, elements_of, is_certain, is_open, kind_at, kind_of, level_at}
use Rattle.meaning.specs.Reading.{levels_of, reading}

pub record Refusal : Type 0 where
  pub number : ℕ
  pub table : ℕ
  pub row : ℕ

abbrev pub refuse : ℕ → ℕ → ℕ → Refusal
refuse number table row = record { number = number; table = table; row = row }

-- the first that is met is given
abbrev pub first_of : List (Option Refusal) → Option Refusal
first_of [] = none
first_of (none ∷ later) = first_of later
first_of (some r ∷ later) = some r

-- a refusal at 0, 0 where the test is met
abbrev pub refuse_if : ℕ → Bool → Option Refusal
refuse_if number met = cond met (some (refuse number 0 0)) none

-- a refusal at the lowest record of a table that is at fault
abbrev pub at_record : ℕ → ℕ → Option ℕ → Option Refusal
at_record number table none = none
at_record number table (some i) = some (refuse number table i)

unfoldable pub lowest : {X : Type 0} → ℕ → ℕ → (ℕ → X → Bool) → List X → Option Refusal
lowest number table fault records = at_record number table (seek fault 0 records)

-- a refusal at record 0 of the table whose entry, from 0, a search found
abbrev pub at_table : ℕ → Option ℕ → Option Refusal
at_table number none = none
at_table number (some k) = some (refuse number (suc k) 0)

-- 1: fewer than 48 bytes
unfoldable pub refusal1 : List ℕ → Option Refusal
refusal1 b = refuse_if 1 (ltb (length b) contents)

-- 2: a count above its limit
abbrev pub too_many : List ℕ → ℕ → ℕ → Bool
too_many b k most = ltb most (count_of b k)

unfoldable pub refusal2 : List ℕ → Option Refusal
refusal2 b = at_table 2 (seek (too_many b) 0 limits)

-- 3: an offset that is not where the body before ended; then a length that is not the end
abbrev pub astray : List ℕ → ℕ → ℕ → Bool
astray b k size = not (eqb (offset_of b k) (start b k))

abbrev pub misplaced : List ℕ → List (Option Refusal)
misplaced b = at_table 3 (seek (astray b) 0 sizes) ∷ refuse_if 3 (not (eqb (length b) (end b))) ∷ []

unfoldable pub refusal3 : List ℕ → Option Refusal
refusal3 b = first_of (misplaced b)

-- 4: a code or level that is not listed
abbrev pub unlisted_predicate : ℕ → Predicate → Bool
unlisted_predicate i p = ltb 3 p.kind || ltb 127 p.level

abbrev pub unlisted_atom : ℕ → Atom → Bool
unlisted_atom i x = ltb 2 x.given

abbrev pub unlisted_hypothesis : ℕ → HypothesisRecord → Bool
unlisted_hypothesis i h = ltb 2 h.sort

abbrev pub unlisted_comparison : ℕ → ComparisonRecord → Bool
unlisted_comparison i c = ltb 3 c.aggregate || ltb 5 c.relation

abbrev pub unlisted_element : ℕ → ElementRecord → Bool
unlisted_element i e = ltb 1 e.sign

abbrev pub unlisted : Tables → List (Option Refusal)
unlisted t =
    lowest 4 1 unlisted_predicate t.predicates
    ∷ lowest 4 2 unlisted_atom t.atoms
    ∷ lowest 4 4 unlisted_hypothesis t.hypotheses
    ∷ lowest 4 5 unlisted_comparison t.comparisons
    ∷ lowest 4 6 unlisted_element t.elements
    ∷ []

unfoldable pub refusal4 : Tables → Option Refusal
refusal4 t = first_of (unlisted t)

-- 5: an index that is not in its table, or first + how many above that table's count; the tables by their counts
abbrev pub stray_atom : ℕ → ℕ → Atom → Bool
stray_atom predicates i x = leb predicates x.predicate

abbrev pub stray_rule : ℕ → ℕ → ℕ → RuleRecord → Bool
stray_rule atoms hypotheses i r = leb atoms r.head || ltb hypotheses (r.first + r.many)

-- sorts 0 and 1 point at atoms, sort 2 at comparisons
abbrev pub stray_hypothesis : ℕ → ℕ → ℕ → HypothesisRecord → Bool
stray_hypothesis atoms comparisons i h = leb (cond (ltb h.sort 2) atoms comparisons) h.index

abbrev pub stray_comparison : ℕ → ℕ → ComparisonRecord → Bool
stray_comparison elements i c = ltb elements (c.first + c.many)

abbrev pub stray_element : ℕ → ℕ → ElementRecord → Bool
stray_element atoms i e = leb atoms e.atom

abbrev pub stray : Tables → List (Option Refusal)
stray t =
    lowest 5 2 (stray_atom (length t.predicates)) t.atoms
    ∷ lowest 5 3 (stray_rule (length t.atoms) (length t.hypotheses)) t.rules
    ∷ lowest 5 4 (stray_hypothesis (length t.atoms) (length t.comparisons)) t.hypotheses
    ∷ lowest 5 5 (stray_comparison (length t.elements)) t.comparisons
    ∷ lowest 5 6 (stray_element (length t.atoms)) t.elements
    ∷ []

unfoldable pub refusal5 : Tables → Option Refusal
refusal5 t = first_of (stray t)

-- 6: one atom twice in one comparison
abbrev pub element_atom : ElementRecord → ℕ
element_atom e = e.atom

abbrev pub repeats : Tables → ℕ → ComparisonRecord → Bool
repeats t i c = twice (map element_atom (elements_of t c))

unfoldable pub refusal6 : Tables → Option Refusal
refusal6 t = lowest 6 5 (repeats t) t.comparisons

-- 7: given 1 or 2 at an atom that isn't open, or that a rule concludes
abbrev pub concluded : Reading → ℕ → Bool
concluded R a = any (λ r. eqb r.head a) R.rules

abbrev pub given_wrongly : Reading → ℕ → Atom → Bool
given_wrongly R a x = not (eqb x.given 0) && (not (is_open (kind_at R.kinds a)) || concluded R a)

unfoldable pub refusal7 : Reading → List Atom → Option Refusal
refusal7 R atoms = lowest 7 2 (given_wrongly R) atoms

-- 8: a predicate shares its level with a lower-numbered one, one certain and the other uncertain
abbrev pub mixed : Predicate → Predicate → Bool
mixed p q = eqb p.level q.level && not (beq (is_certain (kind_of p.kind)) (is_certain (kind_of q.kind)))

abbrev pub mixed_below : List Predicate → ℕ → Predicate → Bool
mixed_below predicates i p = any (mixed p) (take i predicates)

unfoldable pub refusal8 : List Predicate → Option Refusal
refusal8 predicates = lowest 8 1 (mixed_below predicates) predicates

-- Positive use of an element: sign 0 in count >, count ≥, max >, max ≥, min <, min ≤; sign 1 in count <, count ≤.
-- Here: source 002 also admits sign 1 in max <, max ≤, min >, min ≥.
abbrev pub is_above : Relation → Bool
is_above Relation.Gt = true
is_above Relation.Ge = true
is_above Relation.Eq = false
is_above Relation.Ne = false
is_above Relation.Lt = false
is_above Relation.Le = false

abbrev pub is_below : Relation → Bool
is_below Relation.Lt = true
is_below Relation.Le = true
is_below Relation.Eq = false
is_below Relation.Ne = false
is_below Relation.Gt = false
is_below Relation.Ge = false

-- sign 0 is positive
abbrev pub grows : Aggregate → Relation → Bool
grows Aggregate.Count r = is_above r
grows Aggregate.Sum r = false
grows Aggregate.Min r = is_below r
grows Aggregate.Max r = is_above r

-- sign 1 is positive
abbrev pub shrinks : Aggregate → Relation → Bool
shrinks Aggregate.Count r = is_below r
shrinks Aggregate.Sum r = false
shrinks Aggregate.Min r = false
shrinks Aggregate.Max r = false

unfoldable pub positive_in : Comparison → Literal → Bool
positive_in c (Literal.Plain a) = grows c.aggregate c.relation
positive_in c (Literal.Negated a) = shrinks c.aggregate c.relation

-- A rule uses its literals' atoms and those of all elements of its comparisons.
pub record Use : Type 0 where
  pub atom : ℕ
  pub positive : Bool

abbrev pub element_use : Comparison → Element → Use
element_use c e = record { atom = atom_of e.literal; positive = positive_in c e.literal }

unfoldable pub uses_of : Hypothesis → List Use
uses_of (Hypothesis.literal (Literal.Plain a)) = record { atom = a; positive = true } ∷ []
uses_of (Hypothesis.literal (Literal.Negated a)) = record { atom = a; positive = false } ∷ []
uses_of (Hypothesis.comparison c) = map (element_use c) c.elements

unfoldable pub uses : Rule → List Use
uses r = gather uses_of r.body

-- 9: a rule uses a predicate of a higher level than its head's
abbrev pub uses_higher : List ℕ → ℕ → Rule → Bool
uses_higher levels i r = any (λ u. ltb (level_at levels r.head) (level_at levels u.atom)) (uses r)

unfoldable pub refusal9 : List Rule → List ℕ → Option Refusal
refusal9 rules levels = lowest 9 3 (uses_higher levels) rules

-- 10: the head is certain and uses a predicate of its own level non-positively
abbrev pub own_non_positive : List ℕ → Rule → Use → Bool
own_non_positive levels r u = eqb (level_at levels r.head) (level_at levels u.atom) && not u.positive

abbrev pub uses_non_positively : List Kind → List ℕ → ℕ → Rule → Bool
uses_non_positively kinds levels i r = is_certain (kind_at kinds r.head) && any (own_non_positive levels r) (uses r)

unfoldable pub refusal10 : Reading → List ℕ → Option Refusal
refusal10 R levels = lowest 10 3 (uses_non_positively R.kinds levels) R.rules

-- 11: the head is certain and uses an uncertain predicate
abbrev pub uses_uncertain : List Kind → ℕ → Rule → Bool
uses_uncertain kinds i r =
    is_certain (kind_at kinds r.head) && any (λ u. not (is_certain (kind_at kinds u.atom))) (uses r)

unfoldable pub refusal11 : Reading → Option Refusal
refusal11 R = lowest 11 3 (uses_uncertain R.kinds) R.rules

-- 12: answer room shorter than the number of atoms
unfoldable pub refusal12 : Tables → ℕ → Option Refusal
refusal12 t room = refuse_if 12 (ltb room (length t.atoms))

-- The twelve in groups, each checked only if those before it give none. 1 to 3: the frame
abbrev pub frame_refusals : List ℕ → List (Option Refusal)
frame_refusals b = refusal1 b ∷ refusal2 b ∷ refusal3 b ∷ []

-- 4: the codes
abbrev pub code_refusals : Tables → List (Option Refusal)
code_refusals t = refusal4 t ∷ []

-- 5 to 7: the records
abbrev pub record_refusals : Tables → List (Option Refusal)
record_refusals t = refusal5 t ∷ refusal6 t ∷ refusal7 (reading t) t.atoms ∷ []

-- 8 to 11: the levels
abbrev pub level_refusals : Tables → List (Option Refusal)
level_refusals t =
    refusal8 t.predicates
    ∷ refusal9 (reading t).rules (levels_of t)
    ∷ refusal10 (reading t) (levels_of t)
    ∷ refusal11 (reading t)
    ∷ []

-- 12: the answer room
abbrev pub room_refusals : Tables → ℕ → List (Option Refusal)
room_refusals t room = refusal12 t room ∷ []

-- all of them, for a book and the length of the answer room
abbrev pub refusals : List ℕ → Tables → ℕ → List (Option Refusal)
refusals b t room =
    frame_refusals b ++ code_refusals t ++ record_refusals t ++ level_refusals t ++ room_refusals t room

unfoldable pub refusal : List ℕ → ℕ → Option Refusal
refusal b room = first_of (refusals b (tables b) room)

-- what the entry returns: number × 10,000,000 + table × 1,000,000 + record
abbrev pub packed : Refusal → ℕ
packed r = r.number * 10000000 + r.table * 1000000 + r.row
