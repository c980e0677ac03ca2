-- What a level without predicates comes to, and loops that write an answer for each atom. Assumes nothing.
use mathlib.Core.Path.{◌≡◌, refl, sym, ap, ◌∙◌}
use mathlib.Core.Logic.{by_cases}
use mathlib.Core.Bool.{Bool, false}
use mathlib.Core.List.{List}
use Prim.Native.Nat.{ℕ, ◌+◌, ◌<◌, ◌≤◌}
use native.Mathlib.Decide.{dec_lt}
use native.Mathlib.Omega.{arith}
use lib.ListN.{length, length-map, set, take}
use lib.Seq.{ext_get_or}
use Rattle.std.proofs.lemmas.List.{get_or-map}
use Rattle.std.proofs.lemmas.Bool.{and_parts, both_ways, false_from_ne_true}
use Rattle.laws.specs.Lists.{any_to}
use Rattle.laws.proofs.Places.{map_at_at, map_at_length}
use Rattle.laws.proofs.Numbers.{any_none, any_number}
use Rattle.laws.proofs.Searches.{NoneTo}
use Rattle.theory.specs.Truth.{is_undefined, truth_of}
use Rattle.theory.specs.declared.answer.Truth.{Truth}
use Rattle.meaning.specs.Format.{atom_count, no_atom, predicate_count, tables}
use Rattle.meaning.specs.Reading.{given_in, given_of}
use Rattle.meaning.specs.declared.records.Atom.{Atom}
use Rattle.meaning.specs.Model.{close, closing}
use Rattle.meaning.proofs.Bytes.{atoms_length}
use Rattle.book.specs.Framed.{Framed, Indexed}
use Rattle.book.specs.Records.{atom_in, level_read, predicate_in}
use Rattle.book.proofs.AtomLaws.{level_is as own_level}
use Rattle.judge.specs.Held.{held}
use Rattle.steps.specs.Work.{levels_in, rules_in}
use Rattle.steps.specs.Due.{pending_in}
use Rattle.steps.proofs.WorkLaws.{few, held_other, held_same, taken}
use Rattle.engine.specs.Levels.{level_is}

-- a level without a predicate has nothing to decide
pub level_bare : (b : List ℕ) (n : ℕ) (A : List Truth) (v : Bool) → v ≡ any_to (level_is b n) (predicate_count b) →
    v ≡ false → Indexed b → v ≡ any_to (pending_in b n A) (atom_count b)
unfolding NoneTo pending_in
level_bare b n A v e f I =
    f ∙ sym (false_from_ne_true (any_to (pending_in b n A) (atom_count b)) (λ t.
    let (a, l, u) = any_number (pending_in b n A) (atom_count b) t in
    let p = (atom_in b a).predicate in
    let own : level_read b a ≡ (predicate_in b p).level =
    sym (own_level b a l (atom_in b a) refl (predicate_in b p) refl) in
    let none = any_none (level_is b n) (predicate_count b) (sym e ∙ f) p (I.atom a l) in
    both_ways _ none (rw own at (and_parts (is_undefined (held A a)) _ u).1)))

-- the closing of a level, at all atoms
pub closed_all : (b : List ℕ) (n : ℕ) (A now : List Truth) (i : ℕ) → length now ≡ length A → length A ≤ i →
    ((k : ℕ) → k < i → held now k ≡ closing (rules_in b) (levels_in b) n k (held A k)) →
    now ≡ close (rules_in b) (levels_in b) n A
unfolding close held
closed_all b n A now i s l h =
    ext_get_or Truth.Undefined now (close (rules_in b) (levels_in b) n A)
    (s ∙ sym (map_at_length (closing (rules_in b) (levels_in b) n) 0 A))
    (λ k m. h k (omega (arith, m, s, l)) ∙
    sym (map_at_at (closing (rules_in b) (levels_in b) n) Truth.Undefined Truth.Undefined A k (omega (arith, m, s))))

pub ruleset closes = (held_same, held_other, closed_all)

-- the given answers: of one atom, and of all
given_one : (b : List ℕ) (a : ℕ) (x : Atom) (v : Truth) → v ≡ truth_of x.given → x ≡ atom_in b a → a < atom_count b →
    v ≡ held (given_of (tables b)) a
unfolding given_of held
given_one b a x v e f l =
    e ∙ ap given_in f ∙
    sym (get_or-map given_in (tables b).atoms a no_atom Truth.Undefined (omega (arith, l, atoms_length b)))

pub given_more : (b : List ℕ) (now after : List Truth) (a : ℕ) (x : Atom) (v : Truth) → after ≡ set now a v →
    v ≡ truth_of x.given → x ≡ atom_in b a → a < atom_count b → a < length now →
    ((k : ℕ) → k < a → held now k ≡ held (given_of (tables b)) k) →
    (k : ℕ) → k < a + 1 → held after k ≡ held (given_of (tables b)) k
given_more b now after a x v q e f l m h k j =
    rw q (by_cases (dec_lt k a) (λ o. held_other now a v k (λ z. omega (arith, o, z)) ∙ h k o)
    (λ o. let p : k ≡ a = omega (arith, o, j) in rw p (held_same now a v m ∙ given_one b a x v e f l)))

pub given_all : (b : List ℕ) (now : List Truth) (i : ℕ) → Framed b → length now ≡ 2048 → atom_count b ≤ i →
    ((k : ℕ) → k < i → held now k ≡ held (given_of (tables b)) k) → take (atom_count b) now ≡ given_of (tables b)
unfolding given_of
given_all b now i F s l h =
    taken now (given_of (tables b)) (atom_count b) (length-map (tables b).atoms given_in ∙ atoms_length b)
    (omega (arith, few b F, s)) (λ k m. h k (omega (arith, m, l)))

pub ruleset giving = (given_more, given_all)
