-- The examples of document 01, "Examples to build against": those that are marked, and those that are not.
-- Assumes nothing.
use Rattle.std.specs.Prelude.{ℕ, List, [], ◌∷◌, pos, replicate}
use Rattle.meaning.specs.Reading.{Hypothesis}
use Rattle.meaning.specs.declared.codes.Kind.{Kind}
use Rattle.meaning.specs.declared.codes.Relation.{Relation}
use Rattle.meaning.specs.declared.codes.Literal.TheVariants.{Negated, Plain}
use Rattle.meaning.specs.declared.codes.Kind.TheVariants.{Certain, Closed, Complete, Open}
use Rattle.meaning.specs.declared.codes.Relation.TheVariants.{Eq, Ge, Le, Lt, Ne}
use Rattle.meaning.specs.Examples.Notation.{Example, ◌for◌, ◌⇐◌, accepted, atom, book, count, fact, false, four}
use Rattle.meaning.specs.Examples.Notation.{given, is, max, min, not, predicate, refused, set_byte, sum, three}
use Rattle.meaning.specs.Examples.Notation.{true, two, undefined}

-- Book of 48 bytes, counts 0, offsets 48.
abbrev pub empty : List ℕ
empty = book [] [] []

-- t ← count{t,a,b} ≥ 3; a, b facts in a lower certain level.
abbrev pub three_of : Kind → List ℕ
three_of kind =
    three λ a b t.
    book (predicate Certain 0 ∷ predicate kind 1 ∷ []) (atom 0 ∷ atom 0 ∷ atom 1 ∷ [])
    (fact a ∷ fact b ∷ t ⇐ count (Plain t ∷ Plain a ∷ Plain b ∷ []) Ge 3 ∷ [])

-- a ← count{a,b} = 1, no rule for b, same predicate.
abbrev pub one_of : Kind → List ℕ
one_of kind =
    two λ a b.
    book (predicate kind 0 ∷ []) (atom 0 ∷ atom 0 ∷ []) (a ⇐ count (Plain a ∷ Plain b ∷ []) Eq 1 ∷ [])

-- p1 fact; p2 and p3 ← count{p1,p2,p3} ≥ 2, certain.
abbrev pub two_of : List ℕ
two_of =
    three λ p1 p2 p3.
    book (predicate Certain 0 ∷ []) (atom 0 ∷ atom 0 ∷ atom 0 ∷ [])
    (fact p1
    ∷ p2 ⇐ count (Plain p1 ∷ Plain p2 ∷ Plain p3 ∷ []) Ge 2
    ∷ p3 ⇐ count (Plain p1 ∷ Plain p2 ∷ Plain p3 ∷ []) Ge 2
    ∷ [])

-- one atom, p, and one rule for it
abbrev pub alone : Kind → Hypothesis → List ℕ
alone kind h = book (predicate kind 0 ∷ []) (atom 0 ∷ []) (0 ⇐ h ∷ [])

-- d1 ← count{not d1, not d2} ≥ 2, no rule for d2, complete.
abbrev pub none_of : List ℕ
none_of =
    two λ d1 d2.
    book (predicate Complete 0 ∷ []) (atom 0 ∷ atom 0 ∷ [])
    (d1 ⇐ count (Negated d1 ∷ Negated d2 ∷ []) Ge 2 ∷ [])

-- q open, m complete, m ← max{5: q} ≠ 3.
abbrev pub not_three : ℕ → List ℕ
not_three byte =
    two λ q m.
    book (predicate Open 0 ∷ predicate Complete 0 ∷ []) (given 0 byte ∷ atom 1 ∷ [])
    (m ⇐ max (pos 5 for Plain q ∷ []) Ne (pos 3) ∷ [])

-- a ← max{1: not b} ≤ 3, same certain predicate.
abbrev pub emptying : List ℕ
emptying =
    two λ a b.
    book (predicate Certain 0 ∷ []) (atom 0 ∷ atom 0 ∷ [])
    (a ⇐ max (pos 1 for Negated b ∷ []) Le (pos 3) ∷ [])

-- e open; s ← e; l ← not e; v ← count{s,l} ≥ 1; s, l, v complete.
abbrev pub either_way : ℕ → List ℕ
either_way byte =
    four λ e s l v.
    book (predicate Open 0 ∷ predicate Complete 0 ∷ []) (given 0 byte ∷ atom 1 ∷ atom 1 ∷ atom 1 ∷ [])
    (s ⇐ is e ∷ l ⇐ not e ∷ v ⇐ count (Plain s ∷ Plain l ∷ []) Ge 1 ∷ [])

-- sum over one undefined weight 2, compared in the body of c
abbrev pub sum_of_two : Relation → ℕ → List ℕ
sum_of_two relation bound =
    two λ x c.
    book (predicate Open 0 ∷ predicate Complete 0 ∷ []) (atom 0 ∷ atom 1 ∷ [])
    (c ⇐ sum (pos 2 for Plain x ∷ []) relation (pos bound) ∷ [])

-- min, definite 4, undefined 2, compared in the body of c
abbrev pub min_of_four : Relation → ℕ → List ℕ
min_of_four relation bound =
    three λ x y c.
    book (predicate Open 0 ∷ predicate Complete 0 ∷ []) (given 0 1 ∷ atom 0 ∷ atom 1 ∷ [])
    (c ⇐ min (pos 4 for Plain x ∷ pos 2 for Plain y ∷ []) relation (pos bound) ∷ [])

-- one complete atom, c, and one rule for it
abbrev pub concluding : Hypothesis → List ℕ
concluding h = alone Complete h

-- a rule with a hypothesis, and a fact: its range of none starts at the hypotheses' count, which is 1
abbrev pub last_fact : List ℕ
last_fact = two λ a b. book (predicate Complete 0 ∷ []) (atom 0 ∷ atom 0 ∷ []) (a ⇐ is b ∷ fact b ∷ [])

-- a comparison of one element, and one of none, which starts at the elements' count, 1
abbrev pub last_count : List ℕ
last_count =
    two λ a b.
    book (predicate Complete 0 ∷ []) (atom 0 ∷ atom 0 ∷ []) (a ⇐ count (Plain b ∷ []) Ge 1 ∷ b ⇐ count [] Ge 0 ∷ [])

-- a fact whose predicate stands second and has this level
abbrev pub fact_at : ℕ → List ℕ
fact_at level = book (predicate Closed 0 ∷ predicate Certain level ∷ []) (atom 1 ∷ []) (fact 0 ∷ [])

-- a ← b; b ← a; c ← not a, one closed predicate at level 0
abbrev pub listing : List ℕ
listing =
    three λ a b c.
    book (predicate Closed 0 ∷ []) (atom 0 ∷ atom 0 ∷ atom 0 ∷ []) (a ⇐ is b ∷ b ⇐ is a ∷ c ⇐ not a ∷ [])

-- marked: kinds of predicate
unfoldable pub kinds : List Example
kinds =
    -- accepted, no atoms
    accepted empty []
    -- t certain or closed: false. Complete or open: undefined.
    ∷ accepted (three_of Certain) (true ∷ true ∷ false ∷ [])
    ∷ accepted (three_of Closed) (true ∷ true ∷ false ∷ [])
    ∷ accepted (three_of Complete) (true ∷ true ∷ undefined ∷ [])
    ∷ accepted (three_of Open) (true ∷ true ∷ undefined ∷ [])
    -- Open: both undefined. Complete: a undefined, b false. Closed: both false. Certain: refusal 10.
    ∷ accepted (one_of Open) (undefined ∷ undefined ∷ [])
    ∷ accepted (one_of Complete) (undefined ∷ false ∷ [])
    ∷ accepted (one_of Closed) (false ∷ false ∷ [])
    ∷ refused (one_of Certain) 10_3_000000
    -- true, false, false
    ∷ accepted two_of (true ∷ false ∷ false ∷ [])
    ∷ []

-- marked: loops
unfoldable pub loops : List Example
loops =
    -- p ← p: complete undefined, closed false, certain false. p ← not p, closed: undefined.
    accepted (alone Complete (is 0)) (undefined ∷ [])
    ∷ accepted (alone Closed (is 0)) (false ∷ [])
    ∷ accepted (alone Certain (is 0)) (false ∷ [])
    ∷ accepted (alone Closed (not 0)) (undefined ∷ [])
    -- d2 false, d1 undefined
    ∷ accepted none_of (undefined ∷ false ∷ [])
    ∷ []

-- marked: open atoms
unfoldable pub open_atoms : List Example
open_atoms =
    -- q not given: m undefined. q given true: m true. q given false: m undefined.
    accepted (not_three 0) (undefined ∷ undefined ∷ [])
    ∷ accepted (not_three 1) (true ∷ true ∷ [])
    ∷ accepted (not_three 2) (false ∷ undefined ∷ [])
    -- refusal 10
    ∷ refused emptying 10_3_000000
    -- e not given: s, l, v undefined. Given either way: v true.
    ∷ accepted (either_way 0) (undefined ∷ undefined ∷ undefined ∷ undefined ∷ [])
    ∷ accepted (either_way 1) (true ∷ true ∷ false ∷ true ∷ [])
    ∷ accepted (either_way 2) (false ∷ false ∷ true ∷ true ∷ [])
    ∷ []

-- marked: sum and min
unfoldable pub bounds : List Example
bounds =
    -- ≠ 1 undefined, ≤ 2 true, < 2 undefined
    accepted (sum_of_two Ne 1) (undefined ∷ undefined ∷ [])
    ∷ accepted (sum_of_two Le 2) (undefined ∷ true ∷ [])
    ∷ accepted (sum_of_two Lt 2) (undefined ∷ undefined ∷ [])
    -- ≤ 4 true; < 4, = 4, ≠ 2 undefined; ≠ 3 true; ≥ 2 true
    ∷ accepted (min_of_four Le 4) (true ∷ undefined ∷ true ∷ [])
    ∷ accepted (min_of_four Lt 4) (true ∷ undefined ∷ undefined ∷ [])
    ∷ accepted (min_of_four Eq 4) (true ∷ undefined ∷ undefined ∷ [])
    ∷ accepted (min_of_four Ne 2) (true ∷ undefined ∷ undefined ∷ [])
    ∷ accepted (min_of_four Ne 3) (true ∷ undefined ∷ true ∷ [])
    ∷ accepted (min_of_four Ge 2) (true ∷ undefined ∷ true ∷ [])
    ∷ []

-- not marked: comparisons of none; limits
unfoldable pub edges : List Example
edges =
    -- Sum and count of no elements: ≥ 0 true. Max of none: undefined.
    accepted (concluding (sum [] Ge (pos 0))) (true ∷ [])
    ∷ accepted (concluding (count [] Ge 0)) (true ∷ [])
    ∷ accepted (concluding (max [] Ge (pos 0))) (undefined ∷ [])
    -- 128 predicates pass, 129 give 2.
    ∷ accepted (book (replicate 128 (predicate Certain 0)) [] []) []
    ∷ refused (book (replicate 129 (predicate Certain 0)) [] []) 2_1_000000
    -- Level 127 passes, 128 gives 4.
    ∷ accepted (fact_at 127) (true ∷ [])
    ∷ refused (fact_at 128) 4_1_000001
    ∷ []

-- not marked: ranges of none; given 3; the book that the listing program prints
unfoldable pub ranges : List Example
ranges =
    -- A range of none starting at the table's count passes, one further gives 5.
    accepted last_fact (true ∷ true ∷ [])
    ∷ refused (set_byte 3 1 2 2 last_fact) 5_3_000001
    ∷ accepted last_count (true ∷ true ∷ [])
    ∷ refused (set_byte 5 1 6 2 last_count) 5_5_000001
    -- Given 3: refusal 4.
    ∷ refused (not_three 3) 4_2_000000
    -- the book that the listing program prints: false, false, true
    ∷ accepted listing (false ∷ false ∷ true ∷ [])
    ∷ []
