-- How the examples are written: predicates, atoms and rules as read; answers as bytes; damage by its place.
-- Assumes nothing.
use Rattle.std.specs.Prelude.{ℕ, suc, ◌+◌, ◌-◌, ◌*◌, List, [], ◌∷◌, ◌++◌, map, ℤ, pos, neg_ℤ, drop, get_or}
use Rattle.std.specs.Prelude.{length, replicate, take}
use Rattle.meaning.specs.Format.{sizes, start}
use Rattle.meaning.specs.declared.records.Atom.{Atom}
use Rattle.meaning.specs.declared.records.Predicate.{Predicate}
use Rattle.meaning.specs.Reading.{Element, Hypothesis, Rule}
use Rattle.meaning.specs.declared.codes.Literal.{Literal}
use Rattle.meaning.specs.declared.codes.Aggregate.{Aggregate}
use Rattle.meaning.specs.declared.codes.Kind.{Kind}
use Rattle.meaning.specs.declared.codes.Relation.{Relation}
use Rattle.meaning.specs.Outcome.{Call}
use Rattle.meaning.specs.Writing.{book_of, kind_code, lay, u32, u8}

-- an example is a call
abbrev pub Example : Type 0
Example = Call

-- 0 undefined, 1 true, 2 false
abbrev pub undefined : ℕ
undefined = 0

abbrev pub true : ℕ
true = 1

abbrev pub false : ℕ
false = 2

-- a predicate of a kind at a level
abbrev pub predicate : Kind → ℕ → Predicate
predicate kind level = record { kind = kind_code kind; level = level }

-- an atom of a predicate: not given, and with a given byte
abbrev pub atom : ℕ → Atom
atom p = record { predicate = p; given = 0 }

abbrev pub given : ℕ → ℕ → Atom
given p byte = record { predicate = p; given = byte }

-- names for the atoms of a book, which are numbered from 0
abbrev pub two : (ℕ → ℕ → List ℕ) → List ℕ
two book = book 0 1

abbrev pub three : (ℕ → ℕ → ℕ → List ℕ) → List ℕ
three book = book 0 1 2

abbrev pub four : (ℕ → ℕ → ℕ → ℕ → List ℕ) → List ℕ
four book = book 0 1 2 3

-- hypotheses that are literals
abbrev pub is : ℕ → Hypothesis
is a = Hypothesis.literal (Literal.Plain a)

abbrev pub not : ℕ → Hypothesis
not a = Hypothesis.literal (Literal.Negated a)

infix 70 ◌for◌
-- an element: a weight for a literal
abbrev pub ◌for◌ : ℤ → Literal → Element
weight for literal = record { literal = literal; weight = weight }

-- -n
abbrev pub minus : ℕ → ℤ
minus n = neg_ℤ (pos n)

-- a comparison; count ignores weights, and here they are 0
abbrev pub compare : Aggregate → List Element → Relation → ℤ → Hypothesis
compare aggregate elements relation bound =
    Hypothesis.comparison
    (record { aggregate = aggregate; relation = relation; bound = bound; elements = elements })

abbrev pub weightless : Literal → Element
weightless literal = pos 0 for literal

abbrev pub count : List Literal → Relation → ℕ → Hypothesis
count literals relation bound = compare Aggregate.Count (map weightless literals) relation (pos bound)

abbrev pub sum : List Element → Relation → ℤ → Hypothesis
sum = compare Aggregate.Sum

abbrev pub min : List Element → Relation → ℤ → Hypothesis
min = compare Aggregate.Min

abbrev pub max : List Element → Relation → ℤ → Hypothesis
max = compare Aggregate.Max

-- rules: with no hypotheses, with one, with several
abbrev pub fact : ℕ → Rule
fact a = record { head = a; body = [] }

infix 70 ◌⇐◌
-- a ← h
abbrev pub ◌⇐◌ : ℕ → Hypothesis → Rule
a ⇐ h = record { head = a; body = h ∷ [] }

abbrev pub rule : ℕ → List Hypothesis → Rule
rule a body = record { head = a; body = body }

-- a book of them
abbrev pub book : List Predicate → List Atom → List Rule → List ℕ
book predicates atoms rules = book_of (lay predicates atoms rules)

-- bytes in place of those that stand at i
abbrev pub patch : ℕ → List ℕ → List ℕ → List ℕ
patch i new b = take i b ++ new ++ drop (i + length new) b

-- damage: the offset or the count of a table, and one byte of one record of a table; tables are numbered from 1
abbrev pub set_offset : ℕ → ℕ → List ℕ → List ℕ
set_offset table n b = patch (8 * (table - 1)) (u32 n) b

abbrev pub set_count : ℕ → ℕ → List ℕ → List ℕ
set_count table n b = patch (8 * (table - 1) + 4) (u32 n) b

abbrev pub set_byte : ℕ → ℕ → ℕ → ℕ → List ℕ → List ℕ
set_byte table row byte n b = patch (start b (table - 1) + get_or sizes (table - 1) 0 * row + byte) (u8 n) b

-- a room of bytes that are no answer
abbrev pub nines : ℕ → List ℕ
nines n = replicate n 9

-- accepted with these answers, in a room one byte longer
abbrev pub accepted : List ℕ → List ℕ → Example
accepted b answers = record { book = b; room = nines (suc (length answers)); number = 0; after = answers ++ (9 ∷ []) }

-- refused with this number, which is the refusal's number, its table and six digits of its record
abbrev pub refused : List ℕ → ℕ → Example
refused b number = record { book = b; room = nines 9; number = number; after = nines 9 }
