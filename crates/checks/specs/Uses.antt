-- Checks 9 to 11 as one comparison of numbers. A use that the check looks at reaches the level above its atom's, any
-- other 0; a rule is at fault if one of its uses reaches above the limit that its head sets. In check 10 this is what
-- document 01 says once 9 has passed: no atom that a rule uses is then above its head's level. Assumes nothing.
use Rattle.std.specs.Prelude.{◌≡◌, Bool, true, cond, not, ◌&&◌, List, [], ◌∷◌, ℕ, ◌+◌, ◌<◌, max, eqb, ltb}
use Rattle.std.specs.Prelude.{length, get_or}
use Rattle.std.proofs.Math.Option.{Option}
use Rattle.laws.specs.Lists.{any, seek_from}
use Rattle.meaning.specs.Format.{rule_count}
use Rattle.meaning.specs.declared.records.ElementRecord.{ElementRecord}
use Rattle.meaning.specs.Reading.{Hypothesis, is_certain}
use Rattle.meaning.specs.Refusal.{Refusal, Use, at_record, refuse, uses, uses_of}
use Rattle.book.specs.Records.{comparison_read, hypothesis_read, kind_read, level_read, rule_in, rule_read}
use Rattle.checks.specs.declared.reaches.Aspect.{Aspect}
use Rattle.checks.specs.declared.reaches.Aspect.TheVariants.{Certainty, Height, Sign}

abbrev pub number_of : Aspect → ℕ
number_of Height = 9
number_of Sign = 10
number_of Certainty = 11

-- the refusal of a rule
abbrev pub said_of : Aspect → ℕ → Refusal
said_of aspect rule = refuse (number_of aspect) 3 rule

-- 9 looks at every use, 10 at the non-positive ones, 11 at those of uncertain atoms
abbrev pub looks_at : List ℕ → Aspect → Use → Bool
looks_at b Height u = true
looks_at b Sign u = not u.positive
looks_at b Certainty u = not (is_certain (kind_read b u.atom))

unfoldable pub reach_of : List ℕ → Aspect → Use → ℕ
reach_of b aspect u = cond (looks_at b aspect u) (level_read b u.atom + 1) 0

-- the use of an element, by whether sign 0 and sign 1 are positive
abbrev pub used_as : Bool → Bool → ElementRecord → Use
used_as plain negated x = record { atom = x.atom; positive = cond (eqb x.sign 0) plain negated }

-- the highest of several
unfoldable pub highest : List ℕ → Aspect → List Use → ℕ
highest b aspect [] = 0
highest b aspect (u ∷ us) = max (reach_of b aspect u) (highest b aspect us)

-- of what comparison c uses, and hypothesis h
unfoldable pub comparison_reach : List ℕ → Aspect → ℕ → ℕ
comparison_reach b aspect c = highest b aspect (uses_of (Hypothesis.comparison (comparison_read b c)))

unfoldable pub hypothesis_reach : List ℕ → Aspect → ℕ → ℕ
hypothesis_reach b aspect h = highest b aspect (uses_of (hypothesis_read b h))

-- those of the first n comparisons
pub record Reaches (b : List ℕ) (aspect : Aspect) (n : ℕ) (found : List ℕ) : Type 0 where
  pub room : length found ≡ 512
  pub at : (c : ℕ) → c < n → get_or found c 0 ≡ comparison_reach b aspect c

-- 10 and 11 ask nothing of rules whose head is not certain
abbrev pub asks_of : List ℕ → Aspect → ℕ → Bool
asks_of b Height head = true
asks_of b Sign head = is_certain (kind_read b head)
asks_of b Certainty head = is_certain (kind_read b head)

-- in 9 a use may reach as high as the head, in 10 below it, in 11 nowhere
abbrev pub limit_of : List ℕ → Aspect → ℕ → ℕ
limit_of b Height head = level_read b head + 1
limit_of b Sign head = level_read b head
limit_of b Certainty head = 0

-- some use of rule r reaches above the limit
unfoldable pub rule_fault : List ℕ → Aspect → ℕ → Bool
rule_fault b aspect r =
    asks_of b aspect (rule_in b r).head
    && any (λ u. ltb (limit_of b aspect (rule_in b r).head) (reach_of b aspect u)) (uses (rule_read b r))

-- the lowest such rule
unfoldable pub rule_refusal : List ℕ → Aspect → Option Refusal
rule_refusal b aspect = at_record (number_of aspect) 3 (seek_from (rule_fault b aspect) 0 (rule_count b))
