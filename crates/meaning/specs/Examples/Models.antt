-- Our own examples of answers: comparisons, rounds, levels, unfounded sets, bodies and rooms. Assumes nothing.
use Rattle.std.specs.Prelude.{ℕ, List, [], ◌∷◌, ◌++◌, ℤ, pos}
use Rattle.meaning.specs.Reading.{Hypothesis}
use Rattle.meaning.specs.declared.codes.Aggregate.{Aggregate}
use Rattle.meaning.specs.declared.codes.Kind.{Kind}
use Rattle.meaning.specs.declared.codes.Relation.{Relation}
use Rattle.meaning.specs.declared.codes.Literal.TheVariants.{Plain}
use Rattle.meaning.specs.declared.codes.Kind.TheVariants.{Certain, Closed, Complete, Open}
use Rattle.meaning.specs.declared.codes.Relation.TheVariants.{Eq, Ge, Gt, Le, Lt, Ne}
use Rattle.meaning.specs.Examples.Notation.{Example, ◌for◌, ◌⇐◌, accepted, atom, book, compare, count, fact}
use Rattle.meaning.specs.Examples.Notation.{false, four, given, is, max, min, minus, nines, not, predicate, rule}
use Rattle.meaning.specs.Examples.Notation.{set_byte, sum, three, true, two, undefined}
use Rattle.meaning.specs.Examples.Marked.{listing, min_of_four}

-- a definite element and one of given byte, both open, and a comparison of them in the body of c
abbrev pub comparing : ℕ → (ℕ → ℕ → Hypothesis) → List ℕ
comparing byte h =
    three λ x y c.
    book (predicate Open 0 ∷ predicate Complete 0 ∷ []) (given 0 1 ∷ given 0 byte ∷ atom 1 ∷ []) (c ⇐ h x y ∷ [])

-- sum, definite 2, undefined -3: least -1, most 2
abbrev pub sum_with_negative : Relation → ℤ → List ℕ
sum_with_negative relation bound =
    comparing 0 λ x y. sum (pos 2 for Plain x ∷ minus 3 for Plain y ∷ []) relation bound

-- sum of two definite weights
abbrev pub sum_of : ℤ → ℤ → Relation → ℤ → List ℕ
sum_of v w relation bound = comparing 1 λ x y. sum (v for Plain x ∷ w for Plain y ∷ []) relation bound

-- max, definite 4, undefined 6
abbrev pub max_of_four : Relation → ℕ → List ℕ
max_of_four relation bound =
    comparing 0 λ x y. max (pos 4 for Plain x ∷ pos 6 for Plain y ∷ []) relation (pos bound)

-- max, definite 6, undefined 4
abbrev pub max_of_six : Relation → ℕ → List ℕ
max_of_six relation bound =
    comparing 0 λ x y. max (pos 6 for Plain x ∷ pos 4 for Plain y ∷ []) relation (pos bound)

-- min, definite 2, undefined 4
abbrev pub min_of_two : Relation → ℕ → List ℕ
min_of_two relation bound =
    comparing 0 λ x y. min (pos 2 for Plain x ∷ pos 4 for Plain y ∷ []) relation (pos bound)

-- c ← b; b ← a; a fact: a pass in this order has but a
abbrev pub chain : Kind → List ℕ
chain kind =
    three λ a b c.
    book (predicate kind 0 ∷ []) (atom 0 ∷ atom 0 ∷ atom 0 ∷ []) (c ⇐ is b ∷ b ⇐ is a ∷ fact a ∷ [])

-- c ← b; b ← a; no rule for a
abbrev pub groundless : Kind → List ℕ
groundless kind =
    three λ a b c. book (predicate kind 0 ∷ []) (atom 0 ∷ atom 0 ∷ atom 0 ∷ []) (c ⇐ is b ∷ b ⇐ is a ∷ [])

-- a fact in a certain level 1, over a certain level 0 with no rule
abbrev pub fact_above : List ℕ
fact_above =
    two λ a b. book (predicate Certain 0 ∷ predicate Certain 1 ∷ []) (atom 0 ∷ atom 1 ∷ []) (fact b ∷ [])

-- three certain levels: z with no rule; a ← max{1: z} > 0, never true and never false; b ← not a
abbrev pub until_finished : List ℕ
until_finished =
    three λ z a b.
    book (predicate Certain 0 ∷ predicate Certain 1 ∷ predicate Certain 2 ∷ []) (atom 0 ∷ atom 1 ∷ atom 2 ∷ [])
    (a ⇐ max (pos 1 for Plain z ∷ []) Gt (pos 0) ∷ b ⇐ not a ∷ [])

-- a ← b; b ← a; b ← not c; c fact
abbrev pub later_unfounded : List ℕ
later_unfounded =
    three λ a b c.
    book (predicate Closed 0 ∷ []) (atom 0 ∷ atom 0 ∷ atom 0 ∷ []) (a ⇐ is b ∷ b ⇐ is a ∷ b ⇐ not c ∷ fact c ∷ [])

-- a ← count{b} ≥ 1; b ← count{a} ≥ 1
abbrev pub count_loop : Kind → List ℕ
count_loop kind =
    two λ a b.
    book (predicate kind 0 ∷ []) (atom 0 ∷ atom 0 ∷ [])
    (a ⇐ count (Plain b ∷ []) Ge 1 ∷ b ⇐ count (Plain a ∷ []) Ge 1 ∷ [])

-- a ← max{1: b} ≥ 1; b ← max{1: a} ≥ 1
abbrev pub max_loop : Kind → List ℕ
max_loop kind =
    two λ a b.
    book (predicate kind 0 ∷ []) (atom 0 ∷ atom 0 ∷ [])
    (a ⇐ max (pos 1 for Plain b ∷ []) Ge (pos 1) ∷ b ⇐ max (pos 1 for Plain a ∷ []) Ge (pos 1) ∷ [])

-- a ← max{1: b, 0: z} ≥ 1; b ← a; z fact in a lower certain level
abbrev pub max_loop_over : List ℕ
max_loop_over =
    three λ z a b.
    book (predicate Certain 0 ∷ predicate Closed 1 ∷ []) (atom 0 ∷ atom 1 ∷ atom 1 ∷ [])
    (fact z ∷ a ⇐ max (pos 1 for Plain b ∷ pos 0 for Plain z ∷ []) Ge (pos 1) ∷ b ⇐ is a ∷ [])

-- Whoever cannot move loses: a position is won that has a move to one not won. Moves a to b, b to a, b to c and c to d
-- are certain facts, the wins closed.
abbrev pub win_move : List ℕ
win_move =
    let ab : ℕ = 4 in
    let ba : ℕ = 5 in
    let bc : ℕ = 6 in
    let cd : ℕ = 7 in
    four λ a b c d.
    book (predicate Closed 1 ∷ predicate Certain 0 ∷ [])
    (atom 0 ∷ atom 0 ∷ atom 0 ∷ atom 0 ∷ atom 1 ∷ atom 1 ∷ atom 1 ∷ atom 1 ∷ [])
    (rule a (is ab ∷ not b ∷ [])
    ∷ rule b (is ba ∷ not a ∷ [])
    ∷ rule b (is bc ∷ not c ∷ [])
    ∷ rule c (is cd ∷ not d ∷ [])
    ∷ fact ab
    ∷ fact ba
    ∷ fact bc
    ∷ fact cd
    ∷ [])

-- q open, f with no rule, and c with two hypotheses
abbrev pub both_of : (ℕ → Hypothesis) → List ℕ
both_of h =
    three λ q f c.
    book (predicate Open 0 ∷ predicate Complete 0 ∷ []) (atom 0 ∷ atom 1 ∷ atom 1 ∷ [])
    (rule c (is q ∷ h f ∷ []) ∷ [])

-- q given true; a ← q; b ← not q
abbrev pub literals : List ℕ
literals =
    three λ q a b.
    book (predicate Open 0 ∷ predicate Complete 0 ∷ []) (given 0 1 ∷ atom 1 ∷ atom 1 ∷ []) (a ⇐ is q ∷ b ⇐ not q ∷ [])

-- count of two definite elements with weights
abbrev pub weights : List ℕ
weights = comparing 1 λ x y. compare Aggregate.Count (pos 5 for Plain x ∷ minus 7 for Plain y ∷ []) Eq (pos 2)

-- sums
unfoldable pub sums : List Example
sums =
    -- sum, the undefined negative weights in the least: ≥ -1 true, ≥ 0 undefined; ≤ 2 true, ≤ 1 undefined
    accepted (sum_with_negative Ge (minus 1)) (true ∷ undefined ∷ true ∷ [])
    ∷ accepted (sum_with_negative Ge (pos 0)) (true ∷ undefined ∷ undefined ∷ [])
    ∷ accepted (sum_with_negative Le (pos 2)) (true ∷ undefined ∷ true ∷ [])
    ∷ accepted (sum_with_negative Le (pos 1)) (true ∷ undefined ∷ undefined ∷ [])
    -- = -1 and = 2 undefined
    ∷ accepted (sum_with_negative Eq (minus 1)) (true ∷ undefined ∷ undefined ∷ [])
    ∷ accepted (sum_with_negative Eq (pos 2)) (true ∷ undefined ∷ undefined ∷ [])
    -- < -1 and > 2 false; ≠ 3 and ≠ -2 true
    ∷ accepted (sum_with_negative Lt (minus 1)) (true ∷ undefined ∷ false ∷ [])
    ∷ accepted (sum_with_negative Gt (pos 2)) (true ∷ undefined ∷ false ∷ [])
    ∷ accepted (sum_with_negative Ne (pos 3)) (true ∷ undefined ∷ true ∷ [])
    ∷ accepted (sum_with_negative Ne (minus 2)) (true ∷ undefined ∷ true ∷ [])
    ∷ []

-- sums of definite weights; count
unfoldable pub extremes : List Example
extremes =
    -- the least and the largest i32, and sums beyond them
    accepted (sum_of (minus 2147483648) (pos 0) Lt (pos 2147483647)) (true ∷ true ∷ true ∷ [])
    ∷ accepted (sum_of (minus 2147483648) (pos 2147483647) Eq (minus 1)) (true ∷ true ∷ true ∷ [])
    ∷ accepted (sum_of (pos 2147483647) (pos 1) Gt (pos 2147483647)) (true ∷ true ∷ true ∷ [])
    ∷ accepted (sum_of (minus 2147483648) (minus 1) Lt (minus 2147483648)) (true ∷ true ∷ true ∷ [])
    -- below 0 the bits count down from -1: 2 and -2 are 0, 1 and -1 not below it
    ∷ accepted (sum_of (pos 2) (minus 2) Eq (pos 0)) (true ∷ true ∷ true ∷ [])
    ∷ accepted (sum_of (pos 1) (minus 1) Ge (pos 0)) (true ∷ true ∷ true ∷ [])
    -- ≠ is false when = is true
    ∷ accepted (sum_of (pos 1) (pos 1) Ne (pos 2)) (true ∷ true ∷ false ∷ [])
    -- Count ignores weights.
    ∷ accepted weights (true ∷ true ∷ true ∷ [])
    ∷ []

-- max
unfoldable pub maxima : List Example
maxima =
    -- max: ≥ 4 true; > 4, ≤ 4, < 5, = 4, ≠ 6 undefined; ≠ 5, ≠ 3, ≤ 6 true; < 4 and = 3 false
    accepted (max_of_four Ge 4) (true ∷ undefined ∷ true ∷ [])
    ∷ accepted (max_of_four Gt 4) (true ∷ undefined ∷ undefined ∷ [])
    ∷ accepted (max_of_four Le 4) (true ∷ undefined ∷ undefined ∷ [])
    ∷ accepted (max_of_four Lt 5) (true ∷ undefined ∷ undefined ∷ [])
    ∷ accepted (max_of_four Eq 4) (true ∷ undefined ∷ undefined ∷ [])
    ∷ accepted (max_of_four Ne 6) (true ∷ undefined ∷ undefined ∷ [])
    ∷ accepted (max_of_four Ne 5) (true ∷ undefined ∷ true ∷ [])
    ∷ accepted (max_of_four Ne 3) (true ∷ undefined ∷ true ∷ [])
    ∷ accepted (max_of_four Le 6) (true ∷ undefined ∷ true ∷ [])
    ∷ accepted (max_of_four Lt 4) (true ∷ undefined ∷ false ∷ [])
    ∷ accepted (max_of_four Eq 3) (true ∷ undefined ∷ false ∷ [])
    ∷ []

-- min, definite 4, undefined 2
unfoldable pub minima : List Example
minima =
    -- ≠ 5 and > 1 true, > 2 undefined, > 4 and = 3 false
    accepted (min_of_four Ne 5) (true ∷ undefined ∷ true ∷ [])
    ∷ accepted (min_of_four Gt 1) (true ∷ undefined ∷ true ∷ [])
    ∷ accepted (min_of_four Gt 2) (true ∷ undefined ∷ undefined ∷ [])
    ∷ accepted (min_of_four Gt 4) (true ∷ undefined ∷ false ∷ [])
    ∷ accepted (min_of_four Eq 3) (true ∷ undefined ∷ false ∷ [])
    ∷ []

-- max, the definite weight the largest: nothing is undefined
unfoldable pub largest : List Example
largest =
    accepted (max_of_six Gt 5) (true ∷ undefined ∷ true ∷ [])
    ∷ accepted (max_of_six Ge 6) (true ∷ undefined ∷ true ∷ [])
    ∷ accepted (max_of_six Eq 6) (true ∷ undefined ∷ true ∷ [])
    ∷ accepted (max_of_six Ne 4) (true ∷ undefined ∷ true ∷ [])
    ∷ accepted (max_of_six Ne 5) (true ∷ undefined ∷ true ∷ [])
    ∷ accepted (max_of_six Ne 6) (true ∷ undefined ∷ false ∷ [])
    ∷ accepted (max_of_six Lt 7) (true ∷ undefined ∷ true ∷ [])
    ∷ accepted (max_of_six Le 6) (true ∷ undefined ∷ true ∷ [])
    ∷ accepted (max_of_six Lt 6) (true ∷ undefined ∷ false ∷ [])
    ∷ accepted (max_of_six Le 5) (true ∷ undefined ∷ false ∷ [])
    ∷ []

-- min, the definite weight the smallest: nothing is undefined
unfoldable pub smallest : List Example
smallest =
    accepted (min_of_two Lt 3) (true ∷ undefined ∷ true ∷ [])
    ∷ accepted (min_of_two Le 2) (true ∷ undefined ∷ true ∷ [])
    ∷ accepted (min_of_two Eq 2) (true ∷ undefined ∷ true ∷ [])
    ∷ accepted (min_of_two Ne 4) (true ∷ undefined ∷ true ∷ [])
    ∷ accepted (min_of_two Ne 3) (true ∷ undefined ∷ true ∷ [])
    ∷ accepted (min_of_two Ne 2) (true ∷ undefined ∷ false ∷ [])
    ∷ accepted (min_of_two Gt 1) (true ∷ undefined ∷ true ∷ [])
    ∷ accepted (min_of_two Ge 2) (true ∷ undefined ∷ true ∷ [])
    ∷ accepted (min_of_two Gt 2) (true ∷ undefined ∷ false ∷ [])
    ∷ accepted (min_of_two Ge 3) (true ∷ undefined ∷ false ∷ [])
    ∷ []

-- rounds and levels
unfoldable pub rounds : List Example
rounds =
    -- heads of true bodies become true until nothing changes, under every kind
    accepted (chain Certain) (true ∷ true ∷ true ∷ [])
    ∷ accepted (chain Open) (true ∷ true ∷ true ∷ [])
    ∷ accepted (chain Complete) (true ∷ true ∷ true ∷ [])
    ∷ accepted (chain Closed) (true ∷ true ∷ true ∷ [])
    -- with no rule at all: open undefined, else false, and so up the chain
    ∷ accepted (groundless Certain) (false ∷ false ∷ false ∷ [])
    ∷ accepted (groundless Open) (undefined ∷ undefined ∷ undefined ∷ [])
    ∷ accepted (groundless Complete) (false ∷ false ∷ false ∷ [])
    ∷ accepted (groundless Closed) (false ∷ false ∷ false ∷ [])
    -- a certain fact at level 1
    ∷ accepted fact_above (false ∷ true ∷ [])
    -- a is false when its level is finished, and not before
    ∷ accepted until_finished (false ∷ false ∷ true ∷ [])
    ∷ []

-- unfounded sets
unfoldable pub unfounded_sets : List Example
unfounded_sets =
    -- a and b hold each other up once c is true, in the second round
    accepted later_unfounded (false ∷ false ∷ true ∷ [])
    -- a comparison that is false once U's atoms count as false; max of none is not false
    ∷ accepted (count_loop Closed) (false ∷ false ∷ [])
    ∷ accepted (count_loop Complete) (undefined ∷ undefined ∷ [])
    ∷ accepted (max_loop Closed) (undefined ∷ undefined ∷ [])
    ∷ accepted (max_loop Certain) (false ∷ false ∷ [])
    ∷ accepted max_loop_over (true ∷ false ∷ false ∷ [])
    -- d cannot move, c wins, a and b draw
    ∷ accepted win_move (undefined ∷ undefined ∷ true ∷ false ∷ true ∷ true ∷ true ∷ true ∷ [])
    ∷ []

-- rule bodies, ranges and rooms
unfoldable pub bodies : List Example
bodies =
    -- A rule body is true when all hypotheses are true and false when one is false.
    accepted (both_of is) (undefined ∷ false ∷ false ∷ [])
    ∷ accepted (both_of not) (undefined ∷ false ∷ undefined ∷ [])
    -- Ranges may overlap and records may be unused: the second rule has the first one's hypothesis.
    ∷ accepted literals (true ∷ true ∷ false ∷ [])
    ∷ accepted (set_byte 3 1 2 0 literals) (true ∷ true ∷ true ∷ [])
    -- a room as long as the atoms, and one three bytes longer
    ∷ record { book = listing; room = nines 3; number = 0; after = false ∷ false ∷ true ∷ [] }
    ∷ record { book = listing; room = nines 6; number = 0; after = (false ∷ false ∷ true ∷ []) ++ nines 3 }
    ∷ []
