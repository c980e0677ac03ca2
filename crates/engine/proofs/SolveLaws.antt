-- A level without undefined atoms changes nothing, a level worked through is the model's, and all levels are the model.
-- Assumes nothing.
use mathlib.Core.Path.{◌≡◌, refl, sym, ap, ◌∙◌}
use mathlib.Core.Bool.{false, ◌&&◌}
use mathlib.Core.List.{List}
use Prim.Native.Nat.{ℕ, ◌<◌}
use native.Mathlib.Omega.{arith}
use lib.Dec.{eqb}
use Rattle.std.proofs.Common.{◌++◌}
use Rattle.std.proofs.Math.Seq.{take-append_seam}
use lib.ListN.{length, get_or, take}
use lib.Seq.{ext_get_or}
use Rattle.laws.specs.Lists.{any_to, map_at, times}
use Rattle.laws.proofs.Places.{map_at_at, map_at_length}
use Rattle.laws.proofs.Numbers.{any_none}
use Rattle.laws.proofs.Repeats.{times_fixed}
use Rattle.laws.proofs.Searches.{NoneTo}
use Rattle.theory.specs.Truth.{is_undefined}
use Rattle.theory.specs.declared.answer.Truth.{Truth}
use Rattle.meaning.specs.Format.{atom_count, tables}
use Rattle.meaning.specs.Reading.{given_of}
use Rattle.meaning.specs.Model.{close, closing, level, levels_below, model, next, round, unfounded}
use Rattle.meaning.specs.Outcome.{model_of}
use Rattle.book.specs.Framed.{Framed}
use Rattle.book.specs.Records.{level_read}
use Rattle.judge.specs.Held.{held}
use Rattle.steps.specs.Work.{levels_in, rules_in}
use Rattle.steps.specs.Due.{pending_in}
use Rattle.engine.proofs.RestLaws.{first_atoms}

-- a map that leaves each entry leaves the list
map_at_same : (f : ℕ → Truth → Truth) (A : List Truth) →
    ((a : ℕ) → a < length A → f a (get_or A a Truth.Undefined) ≡ get_or A a Truth.Undefined) → map_at f 0 A ≡ A
map_at_same f A h =
    ext_get_or Truth.Undefined (map_at f 0 A) A (map_at_length f 0 A)
    (λ a l. let k : a < length A =
    omega (arith, l, map_at_length f 0 A) in map_at_at f Truth.Undefined Truth.Undefined A a k ∙ h a k)

-- a level is idle if no atom is to be decided
module _ (b : List ℕ) (n : ℕ) (A : List Truth) (s : length A ≡ atom_count b)
    (e : any_to (pending_in b n A) (atom_count b) ≡ false) where
  off : (a : ℕ) → a < length A → (is_undefined (get_or A a Truth.Undefined) && eqb (level_read b a) n) ≡ false
  unfolding NoneTo pending_in held
  off a l = any_none (pending_in b n A) (atom_count b) e a (omega (arith, l, s))

  idle_round : round (rules_in b) (levels_in b) n A ≡ A
  unfolding round next
  idle_round = map_at_same (next (rules_in b) (levels_in b) n A (unfounded (rules_in b) (levels_in b) n A)) A
      (λ a l. rw (off a l))

  idle_close : close (rules_in b) (levels_in b) n A ≡ A
  unfolding close closing
  idle_close = map_at_same (closing (rules_in b) (levels_in b) n) A (λ a l. rw (off a l))

  idle : A ≡ level (rules_in b) (levels_in b) n A
  unfolding level
  idle =
      sym (ap (close (rules_in b) (levels_in b) n)
      (times_fixed (round (rules_in b) (levels_in b) n) (length A) A idle_round) ∙ idle_close)

-- a level's two ways, where the code has read the number of atoms
module _ (b : List ℕ) (k n : ℕ) (before : List Truth) (q : k ≡ atom_count b) (F : Framed b)
    (l : length before ≡ 2048) where
  pub level_idle : any_to (pending_in b n (take k before)) (atom_count b) ≡ false →
      take (atom_count b) before ≡ level (rules_in b) (levels_in b) n (take (atom_count b) before)
  level_idle e = idle b n (take (atom_count b) before) (first_atoms b before F l) (rw q at e)

  pub level_worked : (rest after tail : List Truth) → length rest ≡ 2048 →
      take (atom_count b) rest
      ≡ times (atom_count b) (round (rules_in b) (levels_in b) n) (take (atom_count b) before) →
      after ≡ close (rules_in b) (levels_in b) n (take k rest) →
      take (atom_count b) (after ++ tail) ≡ level (rules_in b) (levels_in b) n (take (atom_count b) before)
  unfolding level close
  level_worked rest after tail m r c =
      let d : after ≡ close (rules_in b) (levels_in b) n (take (atom_count b) rest) = rw q at c in
      let s : length after ≡ atom_count b =
      ap length d ∙ map_at_length (closing (rules_in b) (levels_in b) n) 0 (take (atom_count b) rest) ∙
      first_atoms b rest F m in
      ap (λ (i : ℕ). take i (after ++ tail)) (sym s) ∙ take-append_seam after tail ∙ d ∙
      ap (close (rules_in b) (levels_in b) n) r ∙
      ap (λ (i : ℕ). close (rules_in b) (levels_in b) n
      (times i (round (rules_in b) (levels_in b) n) (take (atom_count b) before))) (sym (first_atoms b before F l))

pub ruleset levelling = (level_idle, level_worked)

-- all levels
pub all_levels : (b : List ℕ) → levels_below (rules_in b) (levels_in b) 128 (given_of (tables b)) ≡ model_of b
unfolding model_of model
all_levels b = refl
