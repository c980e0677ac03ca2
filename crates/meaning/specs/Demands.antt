-- What is promised of a call, which has a book and an answer room: demands 1 and 2 of one call, demand 3 of two.
-- Assumes nothing.
use Rattle.std.specs.Prelude.{ℕ, ◌+◌, ◌*◌, ◌<◌, ◌≤◌, ◌≡◌, ◌⊎◌, List, length, get_or}
use Rattle.std.proofs.Math.Option.{none, some}
use Rattle.laws.specs.Lists.{In}
use Rattle.theory.specs.declared.answer.Truth.{Truth}
use Rattle.theory.specs.Answers.{◌⊑◌}
use Rattle.meaning.specs.Format.{atom_count, start, tables}
use Rattle.meaning.specs.Reading.{Rule, code_of, given_of, kind_at, levels_of, reading}
use Rattle.meaning.specs.declared.codes.Kind.{Kind}
use Rattle.meaning.specs.Refusal.{Refusal, packed, refusal}
use Rattle.meaning.specs.Model.{answers_of}
use Rattle.meaning.specs.Outcome.{Call}
use Rattle.meaning.specs.Founded.{Founded}

-- a book is accepted with a room of this length
abbrev pub Accepted : List ℕ → ℕ → Type 0
Accepted b room = refusal b room ≡ none

-- founded answers of a book's bytes
abbrev pub FoundedIn : List ℕ → List Truth → Type 0
FoundedIn b A = Founded (reading (tables b)) (levels_of (tables b)) (given_of (tables b)) A

-- atom a is open, no rule concludes it, and its given byte, which stands at i, is 0 in b and a listed code in b'
pub record Gift (b b' : List ℕ) (i a : ℕ) : Type 0 where
  pub atom : a < atom_count b
  pub place : i ≡ start b 1 + 3 * a + 2
  pub before : get_or b i 0 ≡ 0
  pub after : get_or b' i 0 ≤ 2
  pub opened : kind_at (reading (tables b)).kinds a ≡ Kind.Open
  pub unconcluded : (r : Rule) → In r (reading (tables b)).rules → r.head ≡ a → ⊥

-- b' differs from b only in given bytes of open atoms that no rule concludes and that were not given
pub record Gives (b b' : List ℕ) : Type 0 where
  pub long : length b' ≡ length b
  pub only : (i : ℕ) → (get_or b' i 0 ≡ get_or b i 0) ⊎ ((a : ℕ) × Gift b b' i a)

-- the room afterwards: an answer's code at each atom's index, every other byte as it was
pub record Filled (A : List Truth) (room after : List ℕ) : Type 0 where
  pub long : length after ≡ length room
  pub answer : (a : ℕ) → a < length A → get_or after a 0 ≡ code_of (answers_of A a)
  pub later : (i : ℕ) → length A ≤ i → get_or after i 0 ≡ get_or room i 0

-- a call whose book is accepted with its room
abbrev pub AcceptedCall : Call → Type 0
AcceptedCall c = Accepted c.book (length c.room)

-- Demands 1 and 2, of one call.
pub record Demands (c : Call) : Type 0 where
  -- 1. Every book and every room gets answers or the one refusal that is its own; a refusal changes no byte of the
  -- room.
  pub refuses : (r : Refusal) → refusal c.book (length c.room) ≡ some r →
      (c.number ≡ packed r) × (c.after ≡ c.room)
  pub accepts : AcceptedCall c → c.number ≡ 0
  -- 2. Answers fill one byte for each atom, and are the founded ones, of which there is one for each book.
  pub answers : AcceptedCall c → (A : List Truth) × FoundedIn c.book A × (length A ≡ atom_count c.book)
      × Filled A c.room c.after
  pub unique : AcceptedCall c → (A A' : List Truth) → FoundedIn c.book A → FoundedIn c.book A' → A ≡ A'

-- two calls: the first is accepted, the second has a book with more given and a room as long
pub record More (c c' : Call) : Type 0 where
  pub first : AcceptedCall c
  pub gives : Gives c.book c'.book
  pub long : length c'.room ≡ length c.room

-- Demand 3, of two such calls (`More`).
pub record Keeps (c c' : Call) : Type 0 where
  -- 3. More given open atoms never take back an answer: the second is accepted too, its founded answers keep those of
  -- the first, and so do the bytes in its room.
  pub accepts_more : c'.number ≡ 0
  pub keeps : (A A' : List Truth) → FoundedIn c.book A → FoundedIn c'.book A' → answers_of A ⊑ answers_of A'
  pub stays : (a : ℕ) → a < atom_count c.book → (get_or c.after a 0 ≡ 0 → ⊥) →
      get_or c'.after a 0 ≡ get_or c.after a 0
