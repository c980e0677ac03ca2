-- Gathering: what one rule more does to what has been gathered. Assumes nothing.
use mathlib.Core.Path.{◌≡◌, sym, ◌∙◌}
use mathlib.Core.Bool.{cond}
use mathlib.Core.List.{List}
use Prim.Native.Nat.{ℕ, ◌+◌, ◌<◌}
use native.Mathlib.Numerals.{add-one}
use native.Mathlib.Omega.{arith}
use lib.Dec.{eqb}
use lib.ListN.{length, get_or, get_or-replicate, length-replicate, length-set, replicate, set}
use lib.Seq.{get_or-set_other, get_or-set_same}
use borrow.Author.Tests.{eqb-false, eqb-true}
use Rattle.laws.proofs.Tests.{by-test}
use Rattle.theory.specs.declared.answer.Truth.{Truth}
use Rattle.meaning.specs.Format.{rule_count}
use Rattle.meaning.specs.declared.records.RuleRecord.{RuleRecord}
use Rattle.book.specs.Framed.{Framed, Indexed}
use Rattle.book.specs.Records.{rule_in}
use Rattle.steps.specs.Round.{Gathered, body_in, head_truth, join}
use Rattle.steps.proofs.WorkLaws.{few}

module _ (b : List ℕ) (A : List Truth) (D : List ℕ) where
  pub gathered_none : Framed b → Gathered b A D (replicate 2048 Truth.False) 0
  unfolding head_truth
  gathered_none F = record {
    long = length-replicate {A = Truth} 2048 Truth.False;
    truths = λ a l _. get_or-replicate 2048 a Truth.False Truth.Undefined (omega (arith, l, few b F));
  }

  module _ (best : List Truth) (k : ℕ) (G : Gathered b A D best k) (r : RuleRecord) (e : r ≡ rule_in b k) where
    -- the rule concludes a, or another atom
    step : (a : ℕ) → head_truth b A a (k + 1) ≡
        cond (eqb r.head a) (join (head_truth b A a k) (body_in b A k)) (head_truth b A a k)
    unfolding head_truth
    step a = rw (add-one, e)

    pub gathered_other : get_or D r.head 0 ≡ 0 → Gathered b A D best (k + 1)
    gathered_other z = record {
      long = G.long;
      truths = λ a l s. by-test (eqb r.head a) (λ t. absurd (s (rw (← eqb-true _ a t) z)))
          (λ f. rw (step a, f) (G.truths a l s));
    }

    pub gathered_more : (v x : Truth) → Indexed b → Framed b → k < rule_count b → x ≡ body_in b A k →
        v ≡ join (get_or best r.head Truth.Undefined) x → Gathered b A D (set best r.head v) (k + 1)
    gathered_more v x I F l p q = record {
      long = length-set best r.head v ∙ G.long;
      truths = λ a m s.
          by-test (eqb r.head a)
          (λ t. rw (step a, t, ← G.truths a m s, ← p, ← eqb-true _ a t)
          (get_or-set_same best r.head v Truth.Undefined (there I F l) ∙ q))
          (λ f. rw (step a, f) (get_or-set_other best r.head a v Truth.Undefined (λ w. eqb-false _ a f (sym w)) ∙
          G.truths a m s));
    }
      where
        there : Indexed b → Framed b → k < rule_count b → r.head < length best
        there I F l = rw e (omega (arith, I.head k l, few b F, G.long))
