-- Checks 9 to 11, a limit on how high uses reach, are document 01's: 9 and 11 as they stand, 10 once 9 has passed.
-- Assumes nothing.
use mathlib.Core.Path.{◌≡◌, sym, ap, ◌∙◌}
use mathlib.Core.Bool.{Bool, true, false, cond, not, ◌&&◌}
use mathlib.Core.List.{List, []}
use mathlib.Core.Option.{none}
use Prim.Native.Nat.{ℕ, ◌+◌, ◌<◌, ◌≤◌}
use native.Mathlib.Omega.{arith}
use lib.Dec.{eqb, ltb}
use lib.ListN.{length, get_or, length-map}
use borrow.Author.Tests.{eqb-false, eqb-true, le-ltb, lt-ltb, ltb-false, ltb-true}
use Rattle.std.proofs.lemmas.List.{get_or-map}
use Rattle.std.proofs.Math.Bool.{and-false}
use Rattle.laws.specs.Lists.{In, any}
use Rattle.laws.proofs.Entries.{any_map, any_none}
use Rattle.laws.proofs.Numbers.{same_test}
use Rattle.laws.proofs.Tests.{by-test}
use Rattle.meaning.specs.Format.{no_rule, rule_count, tables}
use Rattle.meaning.specs.Reading.{Rule, is_certain, levels_of, reading, rule_of}
use Rattle.meaning.specs.Refusal.{lowest, own_non_positive, refusal10, refusal11, refusal9, uses, uses_higher}
use Rattle.meaning.specs.Refusal.{uses_non_positively, uses_uncertain}
use Rattle.meaning.proofs.Absent.{clear_at}
use Rattle.book.specs.Records.{kind_read, level_read, rule_in, rule_read}
use Rattle.book.proofs.Counts.{rules_length}
use Rattle.checks.specs.Uses.{number_of, reach_of, rule_fault, rule_refusal}
use Rattle.checks.specs.declared.reaches.Aspect.{Aspect}
use Rattle.checks.specs.declared.reaches.Aspect.TheVariants.{Certainty, Height, Sign}
use Rattle.checks.proofs.LowestLaws.{lowest_is}

-- two tests that agree at each entry
any_same : {X : Type 0} (f g : X → Bool) (xs : List X) → ((x : X) → In x xs → f x ≡ g x) → any f xs ≡ any g xs
any_same f g xs h =
    same_test (any f xs) (any g xs) (any_map f g xs (λ x i t. sym (h x i) ∙ t)) (any_map g f xs (λ x i t. h x i ∙ t))

-- the three tests as one of numbers: in 9, in 10 where n is no higher than m, in 11
both_raised : (m n : ℕ) → ltb m n ≡ ltb (m + 1) (n + 1)
both_raised m n =
    by-test (ltb m n) (λ t. t ∙ sym (lt-ltb (m + 1) (n + 1) (omega (arith, ltb-true m n t))))
    (λ f. f ∙ sym (le-ltb (m + 1) (n + 1) (omega (arith, ltb-false m n f))))

own_level_lem : (m n : ℕ) (p : Bool) → n ≤ m → (eqb m n && not p) ≡ ltb m (cond (not p) (n + 1) 0)
own_level_lem m n true l = and-false (eqb m n) ∙ sym (le-ltb m 0 (omega arith))
own_level_lem m n false l =
    by-test (eqb m n) (λ t. rw t (sym (lt-ltb m (n + 1) (omega (arith, eqb-true m n t)))))
    (λ f. rw f (sym (le-ltb m (n + 1) (omega (arith, l, eqb-false m n f)))))

not_none : (d : Bool) (n : ℕ) → not d ≡ ltb 0 (cond (not d) (n + 1) 0)
not_none true n = sym (le-ltb 0 0 (omega arith))
not_none false n = sym (lt-ltb 0 (n + 1) (omega arith))

-- a rule
module _ (b : List ℕ) (r : ℕ) where
  abbrev head : ℕ
  head = (rule_in b r).head

  heights_same : uses_higher (levels_of (tables b)) r (rule_read b r) ≡ rule_fault b Height r
  unfolding rule_fault rule_of reach_of
  heights_same =
      any_same (λ u. ltb (level_read b head) (level_read b u.atom))
      (λ u. ltb (level_read b head + 1) (reach_of b Height u)) (uses (rule_read b r))
      (λ u i. both_raised (level_read b head) (level_read b u.atom))

  signs_same : uses_higher (levels_of (tables b)) r (rule_read b r) ≡ false →
      uses_non_positively (reading (tables b)).kinds (levels_of (tables b)) r (rule_read b r) ≡ rule_fault b Sign r
  unfolding rule_fault rule_of reach_of
  signs_same low =
      ap (λ (t : Bool). is_certain (kind_read b head) && t)
      (any_same (own_non_positive (levels_of (tables b)) (rule_read b r))
      (λ u. ltb (level_read b head) (reach_of b Sign u)) (uses (rule_read b r))
      (λ u i. own_level_lem (level_read b head) (level_read b u.atom) u.positive
      (ltb-false (level_read b head) (level_read b u.atom)
      (any_none (λ u. ltb (level_read b head) (level_read b u.atom)) (uses (rule_read b r)) low u i))))

  certainty_same : uses_uncertain (reading (tables b)).kinds r (rule_read b r) ≡ rule_fault b Certainty r
  unfolding rule_fault rule_of reach_of
  certainty_same =
      ap (λ (t : Bool). is_certain (kind_read b head) && t)
      (any_same (λ u. not (is_certain (kind_read b u.atom)))
      (λ u. ltb 0 (reach_of b Certainty u)) (uses (rule_read b r))
      (λ u i. not_none (is_certain (kind_read b u.atom)) (level_read b u.atom)))

-- all rules
no_read : Rule
no_read = record { head = 0; body = [] }

module _ (b : List ℕ) where
  -- rule r, in the list of those read
  read_at : (r : ℕ) → r < rule_count b → (fault : ℕ → Rule → Bool) →
      fault r (get_or (reading (tables b)).rules r no_read) ≡ fault r (rule_read b r)
  unfolding reading
  read_at r l fault =
      let m : r < length (tables b).rules = omega (arith, l, rules_length b) in
      ap (fault r) (get_or-map (rule_of (tables b)) (tables b).rules r no_rule no_read m)

  read_length : length (reading (tables b)).rules ≡ rule_count b
  unfolding reading
  read_length = length-map (tables b).rules (rule_of (tables b)) ∙ rules_length b

  rules_are : (aspect : Aspect) (fault : ℕ → Rule → Bool) →
      ((r : ℕ) → r < rule_count b → fault r (rule_read b r) ≡ rule_fault b aspect r) →
      rule_refusal b aspect ≡ lowest (number_of aspect) 3 fault (reading (tables b)).rules
  unfolding rule_refusal
  rules_are aspect fault same =
      sym (lowest_is (number_of aspect) 3 fault (rule_fault b aspect) no_read (reading (tables b)).rules read_length
      (λ r l. read_at r l fault ∙ same r l)).is

  pub heights_are : rule_refusal b Height ≡ refusal9 (reading (tables b)).rules (levels_of (tables b))
  unfolding refusal9
  heights_are = rules_are Height (uses_higher (levels_of (tables b))) (λ r l. heights_same b r)

  pub signs_are : refusal9 (reading (tables b)).rules (levels_of (tables b)) ≡ none →
      rule_refusal b Sign ≡ refusal10 (reading (tables b)) (levels_of (tables b))
  unfolding refusal9 refusal10
  signs_are e =
      rules_are Sign (uses_non_positively (reading (tables b)).kinds (levels_of (tables b)))
      (λ r l. signs_same b r
      (sym (read_at r l (uses_higher (levels_of (tables b)))) ∙
      clear_at 9 3 (uses_higher (levels_of (tables b))) no_read (reading (tables b)).rules e r
      (omega (arith, l, read_length))))

  pub certainty_are : rule_refusal b Certainty ≡ refusal11 (reading (tables b))
  unfolding refusal11
  certainty_are = rules_are Certainty (uses_uncertain (reading (tables b)).kinds) (λ r l. certainty_same b r)
