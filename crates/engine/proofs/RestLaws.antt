-- The rounds of the code come to rest where the model's do. Assumes nothing.
use mathlib.Core.Path.{◌≡◌, sym, ap, ◌∙◌}
use mathlib.Core.Logic.{⊎_elim}
use mathlib.Core.List.{List}
use Prim.Native.Nat.{ℕ, ◌<◌}
use native.Mathlib.Omega.{arith}
use lib.ListN.{length, take}
use lib.Seq.{length-take-le}
use Rattle.laws.specs.Lists.{times}
use Rattle.laws.proofs.Counting.{number}
use Rattle.laws.proofs.Repeats.{times_fixed, times_more}
use Rattle.theory.specs.Truth.{is_undefined}
use Rattle.theory.specs.declared.answer.Truth.{Truth}
use Rattle.meaning.specs.Format.{atom_count}
use Rattle.meaning.specs.Model.{round}
use Rattle.meaning.proofs.Rounds.{round_falls, rounds_rest}
use Rattle.book.specs.Framed.{Framed}
use Rattle.steps.specs.Work.{levels_in, rules_in}
use Rattle.steps.proofs.WorkLaws.{few}
use Rattle.steps.specs.Round.{Turned}

-- the answers of the atoms, of an array of 2048
pub first_atoms : (b : List ℕ) (A : List Truth) → Framed b → length A ≡ 2048 →
    length (take (atom_count b) A) ≡ atom_count b
first_atoms b A F l = length-take-le (atom_count b) A (omega (arith, few b F, l))

module _ (b : List ℕ) (n : ℕ) where
  abbrev turn : List Truth → List Truth
  turn = round (rules_in b) (levels_in b) n

  -- where all rounds lead from these answers
  unfoldable pub rest_of : List Truth → List Truth
  rest_of now = times (atom_count b) turn (take (atom_count b) now)

  -- how many answers are undefined
  unfoldable pub undecided : List Truth → ℕ
  undecided now = number is_undefined (take (atom_count b) now)

  module _ (now : List Truth) (k : ℕ) (q : k ≡ atom_count b) where
    -- a round that changes something leads to the same rest, and decides something
    module _ (F : Framed b) (l : length now ≡ 2048) (after : List Truth) (T : Turned b n (take k now) after) where
      U : Turned b n (take (atom_count b) now) after
      U = rw q at T

      pub rest_same : (old : List Truth) → rest_of now ≡ rest_of old → rest_of after ≡ rest_of old
      unfolding rest_of
      rest_same old s =
          let A = take (atom_count b) now in
          let m : length A ≡ atom_count b = first_atoms b now F l in
          ap (times (atom_count b) turn) U.is ∙ times_more turn (atom_count b) A ∙
          (rw m at (rounds_rest (rules_in b) (levels_in b) n A)) ∙ s

      pub rest_falls : undecided after < undecided now
      unfolding undecided
      rest_falls =
          rw U.is (⊎_elim (λ e. absurd (U.moves e)) (λ f. f)
          (round_falls (rules_in b) (levels_in b) n (take (atom_count b) now)))

    -- one that changes nothing is at rest
    pub rested : (old : List Truth) → turn (take k now) ≡ take k now → rest_of now ≡ rest_of old →
        take (atom_count b) now ≡ times (atom_count b) turn (take (atom_count b) old)
    unfolding rest_of
    rested old e s =
        let f : turn (take (atom_count b) now) ≡ take (atom_count b) now = rw q at e in
        sym (times_fixed turn (atom_count b) (take (atom_count b) now) f) ∙ s

pub ruleset resting = (rest_same, rest_falls, rested)
