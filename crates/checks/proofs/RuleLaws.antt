-- Checks 9 to 11: the search through the hypotheses of a rule, and that through the rules. Assumes nothing.
use mathlib.Core.Path.{◌≡◌, refl, sym, ap, ◌∙◌}
use mathlib.Core.Bool.{Bool, true, false, ◌||◌}
use mathlib.Core.List.{List, [], ◌∷◌, map}
use Prim.Native.Nat.{ℕ, ◌+◌, ◌<◌, ◌≤◌, max}
use native.Mathlib.Omega.{arith}
use lib.Dec.{ltb}
use lib.ListN.{length}
use lib.Seq.{slice}
use borrow.Author.Tests.{le-ltb, lt-ltb, ltb-false, ltb-true}
use Rattle.laws.specs.Lists.{any}
use Rattle.laws.proofs.Ranges.{any_gather, any_map, slice_none, slice_some}
use Rattle.laws.proofs.Tests.{by-test}
use Rattle.meaning.specs.Format.{no_hypothesis, hypothesis_count, rule_count, tables}
use Rattle.meaning.specs.declared.records.HypothesisRecord.{HypothesisRecord}
use Rattle.meaning.specs.declared.records.RuleRecord.{RuleRecord}
use Rattle.meaning.specs.Reading.{hypothesis_in, rule_of}
use Rattle.meaning.specs.Refusal.{Use, uses, uses_of}
use Rattle.book.specs.Framed.{Indexed}
use Rattle.book.specs.Records as records
use Rattle.book.specs.Records.{rule_in, rule_read}
use Rattle.book.proofs.Counts.{hypotheses_length}
use Rattle.checks.specs.Uses.{asks_of, highest, hypothesis_reach, limit_of, reach_of, rule_fault, rule_refusal}
use Rattle.checks.specs.Uses.{number_of}
use Rattle.checks.specs.declared.reaches.Aspect.{Aspect}
use Rattle.checks.proofs.LowestLaws.{Found, Seeks, Through, found, through, turns}

-- the highest of several is above a limit if one is
above_either : (k m n : ℕ) → (ltb k m || ltb k n) ≡ ltb k (max m n)
above_either k m n =
    by-test (ltb k m) (λ t. rw t (sym (lt-ltb k (max m n) (omega (arith, ltb-true k m t)))))
    (λ f. by-test (ltb k n) (λ t. rw (f, t) (sym (lt-ltb k (max m n) (omega (arith, ltb-true k n t)))))
    (λ g. rw (f, g) (sym (le-ltb k (max m n) (omega (arith, ltb-false k m f, ltb-false k n g))))))

above_highest : (b : List ℕ) (aspect : Aspect) (k : ℕ) (us : List Use) →
    any (λ u. ltb k (reach_of b aspect u)) us ≡ ltb k (highest b aspect us)
unfolding highest
above_highest b aspect k [] = sym (le-ltb k 0 (omega arith))
above_highest b aspect k (u ∷ us) =
    ap (λ (t : Bool). ltb k (reach_of b aspect u) || t) (above_highest b aspect k us) ∙
    above_either k (reach_of b aspect u) (highest b aspect us)

-- hypothesis x has a use that reaches above k
abbrev above_in : List ℕ → Aspect → ℕ → HypothesisRecord → Bool
above_in b aspect k x = any (λ u. ltb k (reach_of b aspect u)) (uses_of (hypothesis_in (tables b) x))

above_at : (b : List ℕ) (aspect : Aspect) (k h : ℕ) →
    above_in b aspect k (records.hypothesis_in b h) ≡ ltb k (hypothesis_reach b aspect h)
unfolding hypothesis_reach
above_at b aspect k h = above_highest b aspect k (uses_of (records.hypothesis_read b h))

-- rule r, as it was read
module _ (b : List ℕ) (aspect : Aspect) (r : ℕ) (x : RuleRecord) (e : x ≡ rule_in b r) where
  hypotheses_in : Indexed b → r < rule_count b → x.first + x.many ≤ hypothesis_count b
  hypotheses_in I l = rw e (I.rule r l)

  hypotheses_there : Indexed b → r < rule_count b → x.first + x.many ≤ length (tables b).hypotheses
  hypotheses_there I l = omega (arith, hypotheses_in I l, hypotheses_length b)

  -- its hypotheses are searched only if the check asks anything of it
  module _ (v : Bool) (a : v ≡ asks_of b aspect x.head) where
    pub rule_unasked : v ≡ false → false ≡ rule_fault b aspect r
    unfolding rule_fault
    rule_unasked f = rw (← e, ← a, f)

    rule_asked : (k : ℕ) (w : Bool) → v ≡ true → k ≡ limit_of b aspect x.head →
        w ≡ any (above_in b aspect k) (slice x.first (x.first + x.many) (tables b).hypotheses) →
        w ≡ rule_fault b aspect r
    unfolding rule_fault rule_of uses
    rule_asked k w t m p =
        let hs = slice x.first (x.first + x.many) (tables b).hypotheses in
        p ∙ rw (← e, ← a, t, ← m)
        (sym
        (any_gather (λ u. ltb k (reach_of b aspect u)) uses_of (map (hypothesis_in (tables b)) hs) ∙
        any_map (λ y. any (λ u. ltb k (reach_of b aspect u)) (uses_of y)) (hypothesis_in (tables b)) hs))

    -- a hypothesis that reaches above the limit, and none
    module _ (I : Indexed b) (l : r < rule_count b) (t : v ≡ true) (k : ℕ) (m : k ≡ limit_of b aspect x.head) where
      pub rule_found : (h : ℕ) → x.first ≤ h → h < x.first + x.many → k < hypothesis_reach b aspect h →
          true ≡ rule_fault b aspect r
      rule_found h o p g =
          rule_asked k true t m
          (sym (slice_some no_hypothesis (tables b).hypotheses x.first (x.first + x.many) (above_in b aspect k)
          (hypotheses_there I l) h o p (above_at b aspect k h ∙ lt-ltb k (hypothesis_reach b aspect h) g)))

      pub rule_none : (h : ℕ) → ((j : ℕ) → x.first ≤ j → j < h → hypothesis_reach b aspect j ≤ k) →
          x.first + x.many ≤ h → false ≡ rule_fault b aspect r
      rule_none h n g =
          rule_asked k false t m
          (sym (slice_none no_hypothesis (tables b).hypotheses x.first (x.first + x.many) (above_in b aspect k)
          (hypotheses_there I l)
          (λ j o p. above_at b aspect k j ∙ le-ltb k (hypothesis_reach b aspect j) (n j o (omega (arith, p, g))))))

-- the search through the rules
rules_seek : (b : List ℕ) (aspect : Aspect) →
    Seeks (rule_refusal b aspect) (number_of aspect) 3 (rule_fault b aspect) (rule_count b)
unfolding rule_refusal
rules_seek b aspect = record { is = refl }

pub rules_found : (b : List ℕ) (aspect : Aspect) →
    Found (rule_refusal b aspect) (number_of aspect) 3 (rule_fault b aspect) (rule_count b)
rules_found b aspect = found (rules_seek b aspect)

pub rules_through : (b : List ℕ) (aspect : Aspect) →
    Through (rule_refusal b aspect) (rule_fault b aspect) (rule_count b)
rules_through b aspect = through (rules_seek b aspect)

pub ruleset ruled = (turns, rules_found, rules_through)
