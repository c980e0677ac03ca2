-- What is known of bodies: at its start, after a strike, and when a block of hypotheses has been judged.
-- Assumes nothing.
use mathlib.Core.Path.{◌≡◌, sym, ap, ◌∙◌}
use mathlib.Core.Bool.{Bool, true, false}
use mathlib.Core.List.{List}
use Prim.Native.Nat.{ℕ, ◌+◌, ◌*◌, ◌<◌, ◌≤◌}
use native.Mathlib.Omega.{arith}
use lib.Dec.{eqb}
use lib.ListN.{get_or, length-replicate, length-set, replicate, set}
use lib.Seq.{get_or-set_other}
use borrow.Author.Tests.{eqb-false, eqb-true}
use Rattle.std.proofs.lemmas.Bool.{both_ways, false_from_ne_true}
use Rattle.laws.proofs.Tests.{by-test}
use Rattle.theory.specs.Truth.{is_false}
use Rattle.theory.specs.declared.answer.Truth.{Truth}
use Rattle.theory.specs.Answers.{◌⊑◌}
use Rattle.theory.proofs.Truth.{false_of, flip-≼}
use Rattle.meaning.specs.declared.codes.Sort.{Sort}
use Rattle.meaning.specs.Reading.{Hypothesis, sort_of}
use Rattle.meaning.specs.Truth.{hypothesis_truth}
use Rattle.meaning.proofs.Hypotheses.{hypothesis_local}
use Rattle.book.specs.Records.{comparison_read, hypothesis_in}
use Rattle.judge.specs.Held.{fresh_at, held, sort_truth}
use Rattle.steps.specs.declared.search.Finding.{Finding}
use Rattle.steps.specs.declared.search.Assumption.{Assumption}
use Rattle.steps.specs.Strike.{Known, fails_at, fails_in, found_of}
use Rattle.steps.specs.Search.{Looked, book_of}
use Rattle.steps.proofs.WorkLaws.{replicated}
use Rattle.steps.proofs.FailLaws.{in_none, none_in, same_in}

-- at the start nothing is known
abbrev unseen : List Finding
unseen = replicate 512 Finding.Unknown

pub known_none : (b : List ℕ) (W : List Truth) (left : ℕ) → left ≤ 2048 →
    Known b W (replicate 512 Finding.Unknown) (replicate 64 false) left
known_none b W left l = record {
  long = length-replicate {A = Finding} 512 Finding.Unknown;
  blocks = length-replicate {A = Bool} 64 false;
  few = omega (arith, l);
  late = λ c x m e. let u = unknown c in cc;
  stays = λ c m e. let u = unknown c in cc;
  falls = λ c m e. let u = unknown c in cc;
  clear = λ k h e _ _. absurd (both_ways _ (replicated 64 k false) e);
}
  where
    unknown : (c : ℕ) → found_of unseen c ≡ Finding.Unknown
    unknown c = replicated 512 c Finding.Unknown

-- what is false where less is decided is false where more is
module _ (b : List ℕ) (W X : List Truth) (less : held X ⊑ held W) where
  comparison_less : (c : ℕ) → fresh_at b X c ≡ Truth.False → fresh_at b W c ≡ Truth.False
  unfolding hypothesis_truth
  comparison_less c e =
      (hypothesis_local (held X) (held W) (Hypothesis.comparison (comparison_read b c)) (λ a _. less a)).1 e

  sort_less : (s : Sort) (i : ℕ) → sort_truth (held X) (fresh_at b X) s i ≡ Truth.False →
      sort_truth (held W) (fresh_at b W) s i ≡ Truth.False
  sort_less Sort.Atom i e = (less i).1 e
  sort_less Sort.NotAtom i e = (flip-≼ (held X i) (held W i) (less i)).1 e
  sort_less Sort.Comparison i e = comparison_less i e

  stays_false : (c : ℕ) → is_false (fresh_at b W c) ≡ false → is_false (fresh_at b X c) ≡ false
  stays_false c f = false_from_ne_true _ (λ t. both_ways _ f (ap is_false (comparison_less c (false_of _ t))))

  fails_less : (h : ℕ) → fails_at b W h ≡ false → fails_at b X h ≡ false
  unfolding fails_at
  fails_less h f =
      let x = hypothesis_in b h in
      false_from_ne_true _ (λ t. both_ways _ f (ap is_false (sort_less (sort_of x.sort) x.index (false_of _ t))))

  -- after a strike less is decided, and fewer are left
  pub known_less : (K : List Finding) (C : List Bool) (left now : ℕ) → now < left → Known b W K C left →
      Known b X K C now
  known_less K C left now l k = record {
    long = k.long;
    blocks = k.blocks;
    few = omega (arith, l, k.few);
    late = λ c x m e. omega (arith, l, k.late c x m e);
    stays = λ c m e. stays_false c (k.stays c m e);
    falls = λ c m e. absurd (omega (arith, l, k.late c now m e));
    clear = λ i h e m n. fails_less h (k.clear i h e m n);
  }

-- a block of hypotheses: one that is known to be clear, and one that was found so
pub block_clear : (s : Assumption) (k : ℕ) → get_or s.clear k false ≡ true →
    false ≡ fails_in (book_of s) s.assumed (64 * k) (64 * k + 64)
block_clear s k t = sym (none_in _ s.assumed (64 * k) (64 * k + 64) (λ h m n. s.known.clear k h t m n))

pub block_kept : (s t : Assumption) (k : ℕ) (v : Bool) → Looked s t →
    v ≡ fails_in (book_of s) s.assumed (64 * k) (64 * k + 64) → v ≡ false →
    Known (book_of t) t.assumed t.comparisons (set t.clear k true) t.left
block_kept s t k v L p f = record {
  long = K.long;
  blocks = length-set t.clear k true ∙ K.blocks;
  few = K.few;
  late = K.late;
  stays = K.stays;
  falls = K.falls;
  clear = λ j h e m n.
      by-test (eqb j k)
      (λ y. let q = eqb-true j k y in
      in_none _ t.assumed (64 * k) (64 * k + 64) here h (omega (arith, q, m)) (omega (arith, q, n)))
      (λ y. K.clear j h (sym (get_or-set_other t.clear k j true false (eqb-false j k y)) ∙ e) m n);
}
  where
    K : Known (book_of t) t.assumed t.comparisons t.clear t.left
    K = t.known

    here : fails_in (book_of t) t.assumed (64 * k) (64 * k + 64) ≡ false
    here = same_in s t L (64 * k) (64 * k + 64) ∙ sym p ∙ f
