-- Our own examples of refusals, each at a place that is not the first, and of their order. Assumes nothing.
use Rattle.std.specs.Prelude.{ℕ, List, [], ◌∷◌, ◌++◌, map, pos, take}
use Rattle.meaning.specs.Reading.{Hypothesis}
use Rattle.meaning.specs.declared.codes.Literal.{Literal}
use Rattle.meaning.specs.declared.codes.Aggregate.{Aggregate}
use Rattle.meaning.specs.declared.codes.Kind.{Kind}
use Rattle.meaning.specs.declared.codes.Relation.{Relation}
use Rattle.meaning.specs.declared.codes.Literal.TheVariants.{Negated, Plain}
use Rattle.meaning.specs.declared.codes.Kind.TheVariants.{Certain, Closed, Complete, Open}
use Rattle.meaning.specs.declared.codes.Relation.TheVariants.{Eq, Ge, Gt, Le, Lt, Ne}
use Rattle.meaning.specs.Examples.Notation.{Example, ◌for◌, ◌⇐◌, accepted, atom, book, compare, count, fact, four}
use Rattle.meaning.specs.Examples.Notation.{given, is, max, nines, not, predicate, refused, rule, set_byte}
use Rattle.meaning.specs.Examples.Notation.{set_count, set_offset, three, true, two, undefined}
use Rattle.meaning.specs.Examples.Marked.{empty, listing}

-- a book with records in every table: m ← max{5: q, 3: r} ≠ 3; n ← count{q, not r} ≥ 1, m; 133 bytes
abbrev pub whole : List ℕ
whole =
    four λ q r m n.
    book (predicate Open 0 ∷ predicate Complete 0 ∷ []) (atom 0 ∷ atom 0 ∷ atom 1 ∷ atom 1 ∷ [])
    (m ⇐ max (pos 5 for Plain q ∷ pos 3 for Plain r ∷ []) Ne (pos 3)
    ∷ rule n (count (Plain q ∷ Negated r ∷ []) Ge 1 ∷ is m ∷ [])
    ∷ [])

-- an open atom that a rule concludes, given this byte
abbrev pub given_concluded : ℕ → List ℕ
given_concluded byte = two λ a b. book (predicate Open 0 ∷ []) (atom 0 ∷ given 0 byte ∷ []) (b ⇐ is a ∷ [])

-- an atom that no rule concludes, of this kind, given true
abbrev pub given_unconcluded : Kind → List ℕ
given_unconcluded kind = book (predicate kind 0 ∷ []) (atom 0 ∷ given 0 1 ∷ []) []

-- two complete levels, a of level 0 and b of level 1: b ← a, and a rule for a
abbrev pub upward : (ℕ → Hypothesis) → List ℕ
upward h =
    two λ a b.
    book (predicate Complete 0 ∷ predicate Complete 1 ∷ []) (atom 0 ∷ atom 1 ∷ []) (b ⇐ is a ∷ a ⇐ h b ∷ [])

-- one certain predicate: b fact, and a rule for a that uses b
abbrev pub own_level : (ℕ → Hypothesis) → List ℕ
own_level h = two λ a b. book (predicate Certain 0 ∷ []) (atom 0 ∷ atom 0 ∷ []) (fact b ∷ a ⇐ h b ∷ [])

-- b, or not b, with weight 1 in a comparison
abbrev pub over : Aggregate → (ℕ → Literal) → Relation → ℕ → ℕ → Hypothesis
over aggregate sign relation bound b = compare aggregate (pos 1 for sign b ∷ []) relation (pos bound)

-- refused under each of these relations
abbrev pub non_positive : Aggregate → (ℕ → Literal) → List Relation → List Example
non_positive aggregate sign relations =
    map (λ r. refused (own_level (over aggregate sign r 1)) 10_3_000001) relations

-- q open; d and c certain at a higher level: d fact, and a rule for c that uses q
abbrev pub uncertain : (ℕ → Hypothesis) → List ℕ
uncertain h =
    three λ q d c.
    book (predicate Open 0 ∷ predicate Certain 1 ∷ []) (atom 0 ∷ atom 1 ∷ atom 1 ∷ []) (fact d ∷ c ⇐ h q ∷ [])

-- refusals 1 and 3
unfoldable pub bytes : List Example
bytes =
    -- a book with no fault; one atom may stand in two comparisons
    accepted whole (undefined ∷ undefined ∷ undefined ∷ undefined ∷ [])
    -- 1: fewer than 48 bytes
    ∷ refused (take 47 empty) 1_0_000000
    ∷ refused [] 1_0_000000
    -- 3: an offset not as above; then length not the end
    ∷ refused (set_offset 4 77 whole) 3_4_000000
    ∷ refused (set_count 5 3 whole) 3_6_000000
    ∷ refused (take 132 whole) 3_0_000000
    ∷ refused (whole ++ (0 ∷ [])) 3_0_000000
    ∷ []

-- refusal 2: each limit, one above it and met; met, the next body does not start as it should, or the book is too short
unfoldable pub counts : List Example
counts =
    refused (set_count 2 2049 whole) 2_2_000000
    ∷ refused (set_count 3 2049 whole) 2_3_000000
    ∷ refused (set_count 4 4097 whole) 2_4_000000
    ∷ refused (set_count 5 513 whole) 2_5_000000
    ∷ refused (set_count 6 4097 whole) 2_6_000000
    ∷ refused (set_count 2 2048 whole) 3_3_000000
    ∷ refused (set_count 3 2048 whole) 3_4_000000
    ∷ refused (set_count 4 4096 whole) 3_5_000000
    ∷ refused (set_count 5 512 whole) 3_6_000000
    ∷ refused (set_count 6 4096 whole) 3_0_000000
    ∷ []

-- refusal 4
unfoldable pub codes : List Example
codes =
    -- 4: a code or level not listed
    refused (set_byte 1 1 0 4 whole) 4_1_000001
    ∷ refused (set_byte 1 1 1 128 whole) 4_1_000001
    ∷ refused (set_byte 2 3 2 3 whole) 4_2_000003
    ∷ refused (set_byte 4 2 0 3 whole) 4_4_000002
    ∷ refused (set_byte 5 1 0 4 whole) 4_5_000001
    ∷ refused (set_byte 5 1 1 6 whole) 4_5_000001
    ∷ refused (set_byte 6 3 0 2 whole) 4_6_000003
    ∷ []

-- refusal 5
unfoldable pub indices : List Example
indices =
    -- 5: an index not in its table, or first + how many above that table's count
    refused (set_byte 2 3 0 2 whole) 5_2_000003
    ∷ refused (set_byte 3 1 0 4 whole) 5_3_000001
    ∷ refused (set_byte 3 1 4 3 whole) 5_3_000001
    ∷ refused (set_byte 4 2 1 4 whole) 5_4_000002
    ∷ refused (set_byte 4 1 1 2 whole) 5_4_000001
    ∷ refused (set_byte 5 1 8 3 whole) 5_5_000001
    ∷ refused (set_byte 6 3 1 4 whole) 5_6_000003
    ∷ refused (set_byte 6 3 2 1 whole) 5_6_000003
    ∷ []

-- refusals 6 to 8
unfoldable pub records : List Example
records =
    -- 6: one atom twice in one comparison
    refused (set_byte 6 3 1 0 whole) 6_5_000001
    -- 7: given 1 or 2 at an atom that isn't open, or that a rule concludes
    ∷ refused (set_byte 2 2 2 1 whole) 7_2_000002
    ∷ refused (set_byte 2 3 2 2 whole) 7_2_000003
    ∷ refused (given_unconcluded Certain) 7_2_000001
    ∷ refused (given_unconcluded Complete) 7_2_000001
    ∷ refused (given_unconcluded Closed) 7_2_000001
    ∷ refused (given_concluded 1) 7_2_000001
    ∷ refused (given_concluded 2) 7_2_000001
    -- 8: a predicate shares its level with a lower-numbered one, one certain and the other uncertain
    ∷ refused (book (predicate Complete 0 ∷ predicate Certain 1 ∷ predicate Certain 0 ∷ []) [] []) 8_1_000002
    ∷ refused (book (predicate Certain 0 ∷ predicate Certain 1 ∷ predicate Open 1 ∷ []) [] []) 8_1_000002
    ∷ []

-- refusals 9, 11 and 12
unfoldable pub rules : List Example
rules =
    -- 9: a rule uses a predicate of a higher level than its head's
    refused (upward is) 9_3_000001
    ∷ refused (upward not) 9_3_000001
    ∷ refused (upward λ b. count (Plain b ∷ []) Ge 1) 9_3_000001
    -- 11: the head is certain and uses an uncertain predicate
    ∷ refused (uncertain is) 11_3_000001
    ∷ refused (uncertain not) 11_3_000001
    ∷ refused (uncertain λ q. count (Plain q ∷ []) Ge 1) 11_3_000001
    -- 12: answer room shorter than the number of atoms
    ∷ record { book = listing; room = nines 2; number = 12_0_000000; after = nines 2 }
    ∷ []

-- 10: the head is certain and uses a predicate of its own level non-positively
unfoldable pub positively : List Example
positively =
    -- Positive use: a plain atom; sign 0 in count >, ≥, max >, ≥, min <, ≤; sign 1 in count <, ≤.
    accepted (own_level is) (true ∷ true ∷ [])
    ∷ accepted (own_level (over Aggregate.Count Plain Gt 0)) (true ∷ true ∷ [])
    ∷ accepted (own_level (over Aggregate.Count Plain Ge 1)) (true ∷ true ∷ [])
    ∷ accepted (own_level (over Aggregate.Max Plain Gt 0)) (true ∷ true ∷ [])
    ∷ accepted (own_level (over Aggregate.Max Plain Ge 1)) (true ∷ true ∷ [])
    ∷ accepted (own_level (over Aggregate.Min Plain Lt 2)) (true ∷ true ∷ [])
    ∷ accepted (own_level (over Aggregate.Min Plain Le 1)) (true ∷ true ∷ [])
    ∷ accepted (own_level (over Aggregate.Count Negated Lt 1)) (true ∷ true ∷ [])
    ∷ accepted (own_level (over Aggregate.Count Negated Le 0)) (true ∷ true ∷ [])
    -- not a plain atom
    ∷ refused (own_level not) 10_3_000001
    ∷ []

-- All else is non-positive, sum included. Here: source 002 also admits sign 1 in max <, max ≤, min >, min ≥.
unfoldable pub own_counts : List Example
own_counts =
    non_positive Aggregate.Count Plain (Eq ∷ Ne ∷ Lt ∷ Le ∷ [])
    ++ non_positive Aggregate.Count Negated (Eq ∷ Ne ∷ Gt ∷ Ge ∷ [])

unfoldable pub own_sums : List Example
own_sums = non_positive Aggregate.Sum Plain (Eq ∷ Ne ∷ Lt ∷ Le ∷ Gt ∷ Ge ∷ [])

unfoldable pub own_negated_sums : List Example
own_negated_sums = non_positive Aggregate.Sum Negated (Eq ∷ Ne ∷ Lt ∷ Le ∷ Gt ∷ Ge ∷ [])

unfoldable pub own_minima : List Example
own_minima =
    non_positive Aggregate.Min Plain (Eq ∷ Ne ∷ Gt ∷ Ge ∷ [])
    ++ non_positive Aggregate.Min Negated (Eq ∷ Ne ∷ Lt ∷ Le ∷ Gt ∷ Ge ∷ [])

unfoldable pub own_maxima : List Example
own_maxima =
    non_positive Aggregate.Max Plain (Eq ∷ Ne ∷ Lt ∷ Le ∷ [])
    ++ non_positive Aggregate.Max Negated (Eq ∷ Ne ∷ Lt ∷ Le ∷ Gt ∷ Ge ∷ [])

-- Checks run in number order; the first that is met is given.
unfoldable pub order : List Example
order =
    -- 1 before 2: too short, and a count above its limit
    refused (take 47 (set_count 1 129 whole)) 1_0_000000
    -- 2 before 3, 3 before 4, 4 before 5, 5 before 6, 6 before 7
    ∷ refused (set_count 5 513 (set_offset 1 0 whole)) 2_5_000000
    ∷ refused (set_offset 6 0 (set_byte 1 1 0 4 whole)) 3_6_000000
    ∷ refused (set_byte 2 3 0 2 (set_byte 6 3 0 2 whole)) 4_6_000003
    ∷ refused (set_byte 6 3 1 0 (set_byte 4 2 1 4 whole)) 5_4_000002
    ∷ refused (set_byte 2 2 2 1 (set_byte 6 3 1 0 whole)) 6_5_000001
    -- 7 before 8: a certain atom that is given, and an open predicate of the same level
    ∷ refused (book (predicate Certain 0 ∷ predicate Open 0 ∷ []) (atom 1 ∷ given 0 1 ∷ []) []) 7_2_000001
    -- 8 before 9: mixed predicates, and a rule that uses a higher level
    ∷ refused
    (book (predicate Certain 0 ∷ predicate Closed 1 ∷ predicate Closed 0 ∷ []) (atom 0 ∷ atom 1 ∷ []) (0 ⇐ is 1 ∷ []))
    8_1_000002
    -- 9 before 10 and 10 before 11, though the later fault has the lower record
    ∷ refused
    (book (predicate Certain 0 ∷ predicate Certain 1 ∷ []) (atom 0 ∷ atom 1 ∷ []) (0 ⇐ not 0 ∷ 0 ⇐ is 1 ∷ []))
    9_3_000001
    ∷ refused
    (book (predicate Open 0 ∷ predicate Certain 1 ∷ []) (atom 0 ∷ atom 1 ∷ []) (1 ⇐ is 0 ∷ 1 ⇐ not 1 ∷ []))
    10_3_000001
    -- 11 before 12
    ∷ record { book = uncertain is; room = nines 2; number = 11_3_000001; after = nines 2 }
    ∷ []

-- Two tables that follow one another, both at fault: the place is in the first, though the other's record is lower.
unfoldable pub neighbours : List Example
neighbours =
    -- 4: tables 1, 2, 4, 5, 6
    refused (set_byte 1 1 0 4 (set_byte 2 0 2 3 whole)) 4_1_000001
    ∷ refused (set_byte 2 3 2 3 (set_byte 4 0 0 3 whole)) 4_2_000003
    ∷ refused (set_byte 4 2 0 3 (set_byte 5 0 0 4 whole)) 4_4_000002
    ∷ refused (set_byte 5 1 1 6 (set_byte 6 0 0 2 whole)) 4_5_000001
    -- 5: tables 2 to 6
    ∷ refused (set_byte 2 3 0 2 (set_byte 3 0 0 4 whole)) 5_2_000003
    ∷ refused (set_byte 3 1 0 4 (set_byte 4 0 1 2 whole)) 5_3_000001
    ∷ refused (set_byte 4 2 1 4 (set_byte 5 0 8 5 whole)) 5_4_000002
    ∷ refused (set_byte 5 1 8 3 (set_byte 6 0 1 4 whole)) 5_5_000001
    ∷ []

-- The place is the lowest record in the first table, in table order, that is at fault.
unfoldable pub places : List Example
places =
    -- offsets before the length; the first table; the lowest record
    refused (take 132 (set_offset 6 0 whole)) 3_6_000000
    ∷ refused (set_byte 4 0 1 2 (set_byte 2 3 0 2 whole)) 5_2_000003
    ∷ refused (set_byte 6 3 0 2 (set_byte 6 1 0 2 whole)) 4_6_000001
    -- unused records are checked all the same: hypothesis 1, which no rule has
    ∷ refused (set_byte 3 1 2 2 (set_byte 3 1 4 1 (set_byte 4 1 1 2 whole))) 5_4_000001
    ∷ []
