-- Step (c) by striking out: the answers A with some of the level's candidates counted as false, W, when a rule takes
-- one of them back, and what a search knows of bodies meanwhile: K of comparisons, and C of blocks of 64 hypotheses.
-- Assumes nothing.
use Rattle.std.specs.Prelude.{◌≡◌, Bool, true, false, cond, not, ◌&&◌, List, length, get_or}
use Rattle.std.specs.Prelude.{ℕ, zero, suc, ◌+◌, ◌*◌, ◌^◌, ◌<◌, ◌≤◌, eqb, leb}
use Rattle.std.proofs.Math.Bool.{So}
use Rattle.laws.specs.Lists.{any_to}
use Rattle.theory.specs.Truth.{is_false, is_undefined}
use Rattle.theory.specs.declared.answer.Truth.{Truth}
use Rattle.theory.specs.Answers.{Atoms, wipe}
use Rattle.meaning.specs.Format.{atom_count, comparison_count}
use Rattle.meaning.specs.Truth.{body_truth}
use Rattle.meaning.specs.Model.{candidate}
use Rattle.meaning.specs.Founded.{Unfounded}
use Rattle.book.specs.Records.{hypothesis_in, rule_in, rule_read}
use Rattle.judge.specs.Held.{fresh_at, held, record_truth}
use Rattle.steps.specs.declared.search.Finding.{Finding}
use Rattle.steps.specs.Work.{levels_in, rules_in}

-- the candidates of level n at the answers A: closed, of the level and not true
unfoldable pub candidate_in : List ℕ → ℕ → List Truth → Atoms
candidate_in b n A a = candidate (rules_in b) (levels_in b) n a (held A a)

-- those that are false at W
abbrev pub chosen_in : List ℕ → ℕ → List Truth → List Truth → Atoms
chosen_in b n A W a = candidate_in b n A a && is_false (held W a)

-- W is A with some candidates counted as false, and every unfounded set is among them
pub record Assumed (b : List ℕ) (n : ℕ) (A W : List Truth) : Type 0 where
  pub long : length W ≡ 2048
  pub counted : (a : ℕ) → held W a ≡ wipe (chosen_in b n A W) (held A) a
  pub every : (U : Atoms) → Unfounded (rules_in b) (levels_in b) n U (held A) → (a : ℕ) → So (U a) →
      So (chosen_in b n A W a)

-- an atom to which all three steps are due counts as false
abbrev pub counted_truth : ℕ → Truth → Truth
counted_truth due x = cond (eqb due 3) Truth.False x

-- an atom that is undefined at A and false at W
abbrev pub only_assumed : List Truth → List Truth → ℕ → Bool
only_assumed A W a = is_false (held W a) && is_undefined (held A a)

-- how many of the first i atoms are
unfoldable pub waiting : List Truth → List Truth → ℕ → ℕ
waiting A W zero = 0
waiting A W (suc a) = waiting A W a + cond (only_assumed A W a) 1 0

-- Rule r strikes its head: that is only assumed false, and the body is not false at what is assumed.
unfoldable pub strikes_at : (b : List ℕ) (A W : List Truth) → ℕ → Bool
strikes_at b A W r =
    only_assumed A W (rule_in b r).head && not (is_false (body_truth (held W) (rule_read b r).body))

-- hypothesis h is false at what is assumed
unfoldable pub fails_at : List ℕ → List Truth → ℕ → Bool
fails_at b W h = is_false (record_truth (held W) (fresh_at b W) (hypothesis_in b h))

-- one of the hypotheses from i on is, up to j
unfoldable pub fails_in : List ℕ → List Truth → ℕ → ℕ → Bool
fails_in b W i j = any_to (λ h. leb i h && fails_at b W h) j

-- block k is one of the 64, begins at h and ends by e
pub record Begins (h e k : ℕ) : Type 0 where
  pub small : k < 64
  pub first : h ≡ 64 * k
  pub fits : h + 64 ≤ e

-- what is known of comparison c
abbrev pub found_of : List Finding → ℕ → Finding
found_of K c = get_or K c Finding.Unknown

-- What they say, with so many atoms left to strike: a comparison or a block that was found not to be false is not false
-- at W, and a comparison that was found false with as many left is false. They say so too where less is decided and
-- fewer left.
pub record Known (b : List ℕ) (W : List Truth) (K : List Finding) (C : List Bool) (left : ℕ) : Type 0 where
  pub long : length K ≡ 512
  pub blocks : length C ≡ 64
  pub few : left < 2 ^ 16
  pub late : (c x : ℕ) → c < comparison_count b → found_of K c ≡ Finding.FalseAt x → left ≤ x
  pub stays : (c : ℕ) → c < comparison_count b → found_of K c ≡ Finding.NotFalse → is_false (fresh_at b W c) ≡ false
  pub falls : (c : ℕ) → c < comparison_count b → found_of K c ≡ Finding.FalseAt left →
      is_false (fresh_at b W c) ≡ true
  pub clear : (k h : ℕ) → get_or C k false ≡ true → 64 * k ≤ h → h < 64 * k + 64 → fails_at b W h ≡ false

-- how far a search of level n has come: what is assumed, and how many atoms are left
pub record Searched (b : List ℕ) (n : ℕ) (A W : List Truth) (left : ℕ) : Type 0 where
  pub assumed : Assumed b n A W
  pub waits : left ≡ waiting A W (atom_count b)
