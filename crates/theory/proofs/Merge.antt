-- THE MERGE: the levels, one after the other, end where one run over all their rules ends. Assumes nothing.
use mathlib.Core.Path.{◌≡◌, refl, sym, ◌∙◌}
use mathlib.Core.Logic.{inl, inr, ⊎_elim, by_cases}
use mathlib.Core.Bool.{So, false}
use Prim.Native.Nat.{ℕ, suc, ◌<◌, ◌≤◌}
use native.Mathlib.Omega.{arith}
use native.Mathlib.Decide.{dec_lt}
use lib.Dec.{eqb}
use borrow.Author.Tests.{eqb-true, eq-eqb}
use Rattle.std.proofs.lemmas.Bool.{and_from, and_parts, both_ways}
use Rattle.laws.proofs.Tests.{by-test}
use Rattle.theory.specs.Truth.{◌≼◌}
use Rattle.theory.specs.declared.answer.Truth.{Truth}
use Rattle.theory.specs.Answers.{Answers, ◌⊑◌, Atoms, wipe, NoneTrue}
use Rattle.theory.specs.Rules.{Derived}
use Rattle.theory.specs.Steps.{Never, never, Unfounded, Step, Run, start, next, Final, Ended, Fresh}
use Rattle.theory.specs.Levels.{Book, Layers, whole, at_level, certain_level, rest, close, Levels, none}
use Rattle.theory.specs.Levels.{uncertain, certain, under}
use Rattle.theory.proofs.Truth.{clash, undefined_true, undefined_false, undefined_of, by_answer, ≼_refl, ≼_trans}
use Rattle.theory.proofs.Truth.{known-≼, undefined-≼}
use Rattle.theory.proofs.Answers.{⊑_refl, ⊑_trans, wipe_over}
use Rattle.theory.proofs.Steps.{run_append}
use Rattle.theory.proofs.Consistent.{settled}
use Rattle.theory.proofs.Embed.{Embeds, run_embeds, fresh_embeds}
use Rattle.theory.proofs.Carry.{Carries, run_carries, final_up, at_unsupported}

module _ {B : Book} (L : Layers B) where
  -- a level's own rules are a part of those up to the level, so are those below it, and step (a) alone is a part of
  -- all
  at_embeds : (n : ℕ) → Embeds (at_level B L n) (under B L (suc n))
  at_embeds n = record {
    has = λ r (has, l). (has, omega (arith, l));
    complete = λ a (c, l). (c, omega (arith, l));
    closed = λ a (c, l). (inl c, omega (arith, l));
    own_complete = λ r (has, _) (_, l). (has, l);
    own_closed = λ r (has, _) (_, l). (has, l);
  }

  under_embeds : (n : ℕ) → Embeds (under B L n) (under B L (suc n))
  under_embeds n = record {
    has = λ r (has, l). (has, omega (arith, l));
    complete = λ a (c, l). (c, omega (arith, l));
    closed = λ a (c, l). (c, omega (arith, l));
    own_complete = λ r (has, _) (_, l). (has, l);
    own_closed = λ r (has, _) (_, l). (has, l);
  }

  certain_embeds : (n : ℕ) → Embeds (certain_level B L n) (at_level B L n)
  certain_embeds n = record {
    has = λ r has. has;
    complete = λ a c. absurd c;
    closed = λ a c. absurd c;
    own_complete = λ r _ c. absurd c;
    own_closed = λ r _ c. absurd c;
  }

  -- the rest are the undefined atoms of the level, so none is true
  rest_of : (n : ℕ) (K : Answers) (a : ℕ) → So (rest B L n K a) → (L.level a ≡ n) × (K a ≡ Truth.Undefined)
  rest_of n K a e =
      let (l, u) = and_parts (eqb (L.level a) n) _ e in (eqb-true (L.level a) n l, undefined_of (K a) u)

  rest_in : (n : ℕ) (K : Answers) (a : ℕ) → L.level a ≡ n → K a ≡ Truth.Undefined → So (rest B L n K a)
  rest_in n K a l z = and_from _ _ (eq-eqb (L.level a) n l) (rw z)

  rest_none_true : (n : ℕ) (K : Answers) → NoneTrue (rest B L n K) K
  rest_none_true n K a e = undefined_true (rest_of n K a e).1

  -- closing keeps all answers, changes level `n` alone, and leaves nothing undefined there
  close_keeps : (n : ℕ) (K : Answers) → K ⊑ close B L n K
  close_keeps n K = wipe_over (rest B L n K) (rest_none_true n K) (⊑_refl K)

  close_carries : {n : ℕ} {J K : Answers} → Carries B L n J K → Carries B L n J (close B L n K)
  close_carries {n} {J} {K} C = record {
    kept = ⊑_trans C.kept (close_keeps n K);
    same = λ a ne. by-test (rest B L n K a) (λ e. absurd (ne (rest_of n K a e).0)) (λ e. rw e (C.same a ne));
  }

  close_decided : (n : ℕ) (K : Answers) (a : ℕ) → L.level a ≡ n → close B L n K a ≡ Truth.Undefined → ⊥
  close_decided n K a l =
      by-test (rest B L n K a) (λ e. rw e (λ z. undefined_false z refl))
      (λ e. rw e (λ z. absurd (both_ways _ e (rest_in n K a l z))))

  -- each certain atom below level `n` is decided
  abbrev pub Decided : ℕ → Answers → Type 0
  Decided n A = (a : ℕ) → B.rules.Certain a → L.level a < n → A a ≡ Truth.Undefined → ⊥

  -- CERTAIN. To close a certain level is one step (c).
  module _ {n : ℕ} {K : Answers} (sure : (a : ℕ) → L.level a ≡ n → B.rules.Certain a) where
    -- what is true once the level is closed was true before
    close_true : (r : B.rules.Rule) → B.Has r → L.level (B.rules.head r) ≡ n → (h : B.rules.Hypothesis) →
        B.rules.Uses r h → B.rules.truth (close B L n K) h ≡ Truth.True → B.rules.truth K h ≡ Truth.True
    close_true r has l h uses =
        L.positive r has (sure (B.rules.head r) l) h uses (rest B L n K) K
        (λ a e. let (l', z) = rest_of n K a e in (l' ∙ sym l, z))

    close_derived : (a : ℕ) → Derived B.rules (at_level B L n) (close B L n K) a →
        Derived B.rules (certain_level B L n) K a
    close_derived a (r, (has, l), e, b) = (r, (has, l), e, λ h uses. close_true r has l h uses (b h uses))

    module _ (dec : Decided n K) (end : Ended B.rules (certain_level B L n) K) where
      -- a certain atom of level at most `n` that is not in the rest has its answer for good
      steady : (M : Answers) → K ⊑ M → (a : ℕ) → B.rules.Certain a → L.level a ≤ n → rest B L n K a ≡ false →
          M a ≼ K a
      steady M p a c l e =
          known-≼ (K a) (M a) (p a)
          (λ z. by_cases (dec_lt (L.level a) n) (λ l'. dec a c l' z)
          (λ g. absurd (both_ways _ e (rest_in n K a (omega (arith, l, g)) z))))

      -- a hypothesis that is not true now never comes true with the rest false: all else that it reads is steady
      close_never : (r : B.rules.Rule) → B.Has r → L.level (B.rules.head r) ≡ n → (h : B.rules.Hypothesis) →
          B.rules.Uses r h → (B.rules.truth K h ≡ Truth.True → ⊥) → Never B.rules (rest B L n K) K h
      close_never r has l h uses not-true M p t =
          let U : Atoms = rest B L n K in
          not-true
          (close_true r has l h uses
          ((B.rules.truth_local (wipe U M) (wipe U K) h
          (λ a m. let c = L.certain_only r has (sure (B.rules.head r) l) h uses a m in
          by-test (U a) (λ e. rw e (≼_refl Truth.False))
          (λ e. rw e (steady M p a c (omega (arith, L.lower r has h uses a m, l)) e)))
          ).0 t))

      -- no rule for an undefined atom has a true body, and what is not true in it blocks it
      close_unfounded : Unfounded B.rules (under B L (suc n)) (rest B L n K) K
      close_unfounded = record {
        closed = λ a e. let l = (rest_of n K a e).0 in (inr (sure a l), omega (arith, l));
        none_true = rest_none_true n K;
        blocked = λ r (has, _) e.
            let (l, z) = rest_of n K (B.rules.head r) e in
            ⊎_elim (λ b. absurd (end.no_true (B.rules.head r) z (r, (has, l), refl, b)))
            (λ (h, uses, not-true). (h, uses, never (sure (B.rules.head r) l) (close_never r has l h uses not-true)))
            (B.body_or K r has);
      }

      close_step : Step B.rules (under B L (suc n)) K (close B L n K)
      close_step = record {
        keeps = close_keeps n K;
        new_true = λ a. by-test (rest B L n K a) (λ e. rw e (λ t. absurd (clash t refl))) (λ e. rw e inl);
        new_false = λ a. by-test (rest B L n K a) (λ e _. inr (inr (rest B L n K, close_unfounded, e))) (λ e. rw e inl);
      }

-- what the levels below `n` come to: one run of all their rules, which has reached its end
pub record Merged (B : Book) (L : Layers B) (G : Answers) (n : ℕ) (J : Answers) : Type 0 where
  pub run : Run B.rules (under B L n) G J
  pub final : Final B.rules (under B L n) J
  pub decided : Decided L n J
  -- the atoms from level `n` on are as given
  pub above : (a : ℕ) → n ≤ L.level a → J a ≼ G a

module _ {B : Book} {L : Layers B} {G : Answers} where
  merge_none : Merged B L G 0 G
  merge_none = record {
    run = start;
    final = record {
      has_true = λ a (_, (_, l), _, _). absurd (omega (arith, l));
      has_false = λ a (_, l). absurd (omega (arith, l));
      has_unfounded = λ a (U, u, m). absurd (omega (arith, (u.closed a m).1));
    };
    decided = λ a _ l. absurd (omega (arith, l));
    above = λ a _. ≼_refl (G a);
  }

  module _ {n : ℕ} {J : Answers} (m : Merged B L G n J) where
    decided_kept : {K : Answers} → J ⊑ K → Decided L n K
    decided_kept {K} p a c l z = m.decided a c l (undefined-≼ (J a) (K a) (p a) z)

    -- one level more, once its end is shown to be the end of all levels up to it
    merge_up : {K : Answers} → Carries B L n J K → Run B.rules (under B L (suc n)) J K →
        Final B.rules (under B L (suc n)) K →
        ((a : ℕ) → B.rules.Certain a → L.level a ≡ n → K a ≡ Truth.Undefined → ⊥) → Merged B L G (suc n) K
    merge_up C r f dec = record {
      run = run_append (run_embeds (under_embeds L n) m.run) r;
      final = f;
      decided = λ a c l z.
          by_cases (dec_lt (L.level a) n) (λ l'. decided_kept C.kept a c l' z)
          (λ g. dec a c (omega (arith, l, g)) z);
      above = λ a l. ≼_trans (C.same a (λ e. omega (arith, l, e))) (m.above a (omega (arith, l)));
    }

    -- each level starts fresh, since the levels below leave its atoms alone
    fresh_at_lem : Fresh B.rules (whole B) G → Fresh B.rules (at_level B L n) J
    fresh_at_lem g = record {
      heads = λ r (has, l) e. g.heads r has ((m.above (B.rules.head r) (omega (arith, l))).1 e);
      completes = λ a (c, l) e. g.completes a c ((m.above a (omega (arith, l))).0 e);
      closeds = λ a (c, l) e. g.closeds a (inl c) ((m.above a (omega (arith, l))).0 e);
    }

    merge_uncertain : {K : Answers} → Fresh B.rules (whole B) G →
        ((a : ℕ) → L.level a ≡ n → B.rules.Certain a → ⊥) → Run B.rules (at_level B L n) J K →
        Ended B.rules (at_level B L n) K → Merged B L G (suc n) K
    merge_uncertain g unsure r end =
        let f = settled (fresh_at_lem g) r end in
        let C = run_carries L r in
        merge_up C (run_embeds (at_embeds L n) r)
        (final_up C m.final f.has_true (λ a c l. f.has_false a (c, l))
        (λ a l (U, u, i). f.has_unfounded a (at_unsupported C m.final unsure u a l i)))
        (λ a c l _. unsure a l c)

    merge_certain : {K : Answers} → Fresh B.rules (whole B) G → ((a : ℕ) → L.level a ≡ n → B.rules.Certain a) →
        Run B.rules (certain_level B L n) J K → Ended B.rules (certain_level B L n) K →
        Merged B L G (suc n) (close B L n K)
    merge_certain {K} g sure r end =
        let f = settled (fresh_embeds (certain_embeds L n) (fresh_at_lem g)) r end in
        let q = run_embeds (certain_embeds L n) r in
        let C = run_carries L q in
        let C' = close_carries L C in
        merge_up C' (next (run_embeds (at_embeds L n) q) (close_step L sure (decided_kept C.kept) end))
        (final_up C' m.final (λ a d. (close_keeps L n K a).0 (f.has_true a (close_derived L sure a d)))
        (λ a c l _. absurd (B.complete_uncertain a c (sure a l)))
        (λ a l (U, u, i). by_answer (close B L n K a) (λ z. absurd (close_decided L n K a l z))
        (λ t. absurd (u.none_true a i t)) (λ e. e)))
        (λ a _. close_decided L n K a)

  -- level by level
  pub merged : Fresh B.rules (whole B) G → {n : ℕ} {J : Answers} → Levels B L G n J → Merged B L G n J
  merged g none = merge_none
  merged g (uncertain p unsure r end) = merge_uncertain (merged g p) g unsure r end
  merged g (certain p sure r end) = merge_certain (merged g p) g sure r end
