-- Checks 9 to 11: how high a hypothesis reaches. Assumes nothing.
use mathlib.Core.Path.{◌≡◌, refl, sym}
use mathlib.Core.Bool.{true, false}
use mathlib.Core.List.{List}
use Prim.Native.Nat.{ℕ, zero, suc}
use native.Mathlib.Nat.{max-zero}
use Rattle.meaning.specs.declared.records.HypothesisRecord.{HypothesisRecord}
use Rattle.meaning.specs.Format.{tables}
use Rattle.meaning.specs.Reading.{hypothesis_of}
use Rattle.meaning.specs.Refusal.{uses_of}
use Rattle.book.specs.Records as records
use Rattle.book.specs.Records.{kind_read, level_read}
use Rattle.checks.specs.Uses.{comparison_reach, highest, hypothesis_reach, reach_of}
use Rattle.checks.specs.declared.reaches.Aspect.{Aspect}

-- hypothesis h, as it was read, by its sort: how high it reaches
module _ (b : List ℕ) (aspect : Aspect) (h : ℕ) (x : HypothesisRecord) (p : x ≡ records.hypothesis_in b h) where
  pub by_atom : x.sort ≡ 0 →
      reach_of b aspect (record { atom = x.index; positive = true }) ≡ hypothesis_reach b aspect h
  unfolding hypothesis_reach uses_of hypothesis_of highest
  by_atom e = rw (← p, e) (sym (max-zero _))

  pub by_negation : x.sort ≡ 1 →
      reach_of b aspect (record { atom = x.index; positive = false }) ≡ hypothesis_reach b aspect h
  unfolding hypothesis_reach uses_of hypothesis_of highest
  by_negation e = rw (← p, e) (sym (max-zero _))

  pub by_comparison : (x.sort ≡ 0 → ⊥) → (x.sort ≡ 1 → ⊥) →
      comparison_reach b aspect x.index ≡ hypothesis_reach b aspect h
  unfolding comparison_reach hypothesis_reach hypothesis_of
  by_comparison m n = rw (← p) (sorted x.sort m n)
    where
      sorted : (s : ℕ) → (s ≡ 0 → ⊥) → (s ≡ 1 → ⊥) →
          comparison_reach b aspect x.index ≡ highest b aspect (uses_of (hypothesis_of (tables b) s x.index))
      sorted zero m n = absurd (m refl)
      sorted (suc zero) m n = absurd (n refl)
      sorted (suc (suc s)) m n = refl

pub ruleset sorts = (by_atom, by_negation, by_comparison)
