-- Nothing is promised of nothing. What demand 3 asks of two calls can be met: in one book two open atoms are not given,
-- in the other one is given true and one false; and it shuts out calls that take back an answer. What the theorems
-- below the demands ask of a book can be met too. Assumes nothing.
use mathlib.Core.Path.{◌≡◌, refl, sym, ap, ◌∙◌, subst}
use mathlib.Core.Logic.{inl, inr, by_cases}
use mathlib.Core.List.{List, [], ◌∷◌}
use Prim.Native.Nat.{ℕ}
use native.Mathlib.Decide.{ℕ_discrete}
use native.Mathlib.Omega.{arith}
use lib.Dec.{eqb}
use lib.ListN.{get_or, set}
use lib.Seq.{get_or-set_other}
use borrow.Author.Tests.{eq-eqb, leb-true, ltb-true}
use Rattle.std.proofs.lemmas.Bool.{both_ways}
use Rattle.laws.proofs.Entries.{any_none}
use Rattle.theory.specs.Steps.{Fresh}
use Rattle.theory.specs.Levels as Theory
use Rattle.theory.proofs.Truth.{clash}
use Rattle.meaning.specs.Format.{Tables, atom_count, tables}
use Rattle.meaning.specs.Reading.{given_of, levels_of, reading}
use Rattle.meaning.specs.declared.codes.Kind.{Kind}
use Rattle.meaning.specs.Model.{answers_of}
use Rattle.meaning.specs.Outcome.{Answered, Call, model_of}
use Rattle.meaning.specs.Demands.{Accepted, FoundedIn, Gift, Gives, Keeps, More}
use Rattle.meaning.specs.Examples.Notation.{accepted, false, set_byte, true, undefined}
use Rattle.meaning.specs.Examples.Marked.{three_of}
use Rattle.meaning.specs.Examples.Refused.{whole}
use Rattle.meaning.proofs.Sound.{Sound}
use Rattle.meaning.proofs.Unique.{book, fresh, layers, model_there}
use Rattle.meaning.proofs.Demands.{accepted_sound, founded, kept}
use Rattle.meaning.proofs.Examples.{everything}

-- m ← max{5: q, 3: r} ≠ 3; n ← count{q, not r} ≥ 1, m. Nothing is known of q and r, and so not of m and n.
abbrev pub unknown : Call
unknown = accepted whole (undefined ∷ undefined ∷ undefined ∷ undefined ∷ [])

-- q is given true, which stands at byte 54, and r this, which stands at byte 57
abbrev pub given_both : ℕ → List ℕ
given_both byte = set_byte 2 0 2 1 (set_byte 2 1 2 byte whole)

-- r given false: m and n are true
abbrev pub known : Call
known = accepted (given_both 2) (true ∷ false ∷ true ∷ true ∷ [])

unknown_answered : Answered unknown
unfolding everything
unknown_answered = record { returns = refl; leaves = refl }

known_answered : Answered known
unfolding everything
known_answered = record { returns = refl; leaves = refl }

-- the two gifts
gift_true : Gift whole (given_both 2) 54 0
unfolding everything
gift_true = record {
  atom = ltb-true 0 (atom_count whole) refl;
  place = refl;
  before = refl;
  after = leb-true 1 _ refl;
  opened = refl;
  unconcluded = λ r i e.
      both_ways _ (any_none (λ r. eqb r.head 0) (reading (tables whole)).rules refl r i) (eq-eqb r.head 0 e);
}

gift_false : Gift whole (given_both 2) 57 1
unfolding everything
gift_false = record {
  atom = ltb-true 1 (atom_count whole) refl;
  place = refl;
  before = refl;
  after = leb-true 2 _ refl;
  opened = refl;
  unconcluded = λ r i e.
      both_ways _ (any_none (λ r. eqb r.head 1) (reading (tables whole)).rules refl r i) (eq-eqb r.head 1 e);
}

-- and no other byte differs
two_stores : given_both 2 ≡ set (set whole 57 2) 54 1
unfolding everything
two_stores = refl

gives : Gives whole (given_both 2)
unfolding everything
gives = record {
  long = refl;
  only = λ i.
      by_cases (ℕ_discrete i 54) (λ e. inr (0, subst (λ (j : ℕ). Gift whole (given_both 2) j 0) (sym e) gift_true))
      (λ n. by_cases (ℕ_discrete i 57)
      (λ e. inr (1, subst (λ (j : ℕ). Gift whole (given_both 2) j 1) (sym e) gift_false))
      (λ m. inl (ap (λ (b : List ℕ). get_or b i 0) two_stores ∙ get_or-set_other (set whole 57 2) 54 i 1 0 n ∙
      get_or-set_other whole 57 i 2 0 m)));
}

-- so there are two such calls, and what was undefined is filled in
pub more : More unknown known
unfolding everything
more = record { first = refl; gives = gives; long = refl }

pub more_kept : Keeps unknown known
more_kept = kept unknown known unknown_answered known_answered more

-- the same book with the same answers, but for q: a byte that says true is taken back
abbrev pub forgotten : Call
forgotten = accepted (given_both 2) (undefined ∷ false ∷ true ∷ true ∷ [])

pub byte_taken_back : Keeps known forgotten → ⊥
unfolding everything
byte_taken_back K =
    let e : ◌≡◌ {A = ℕ} 0 1 = K.stays 0 (ltb-true 0 (atom_count (given_both 2)) refl) (λ z. omega (arith, z)) in
    omega (arith, e)

-- r given true instead, and the bytes as they were: the founded answer is taken back
abbrev pub reversed : Call
reversed = accepted (given_both 1) (true ∷ false ∷ true ∷ true ∷ [])

pub answer_taken_back : Keeps known reversed → ⊥
unfolding everything
answer_taken_back K =
    let f = founded (given_both 2) 5 refl in
    let g = founded (given_both 1) 5 refl in
    clash refl ((K.keeps (model_of (given_both 2)) (model_of (given_both 1)) f g 1).1 refl)

-- What the theorems ask: t ← count{t,a,b} ≥ 3, closed, over two facts in a certain level, has all of it.
abbrev pub layered : List ℕ
layered = three_of Kind.Closed

abbrev t : Tables
t = tables layered

pub layered_accepted : Accepted layered 3
unfolding everything
layered_accepted = refl

pub layered_sound : Sound (reading t) (levels_of t) (given_of t)
layered_sound = accepted_sound layered 3 layered_accepted

pub layered_founded : FoundedIn layered (model_of layered)
layered_founded = founded layered 3 layered_accepted

-- of the theory, crate theory: given answers that are fresh; levels that fit, cover the book and are worked through
pub layered_fresh : Fresh (book (reading t)).rules (Theory.whole (book (reading t))) (answers_of (given_of t))
layered_fresh = fresh (reading t) (levels_of t) (given_of t) layered_sound

pub layered_model : Theory.Model (book (reading t)) (layers (reading t) (levels_of t) (given_of t) layered_sound)
    (answers_of (given_of t)) (answers_of (model_of layered))
layered_model = model_there (reading t) (levels_of t) (given_of t) layered_sound layered_founded
