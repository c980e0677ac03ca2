-- One level more: where the levels below `n` are final at `J`, only level `n` changes from `J` to `K`, and level `n`
-- is final at `K`, the levels up to `n` are final at `K`. Assumes nothing.
use mathlib.Core.Path.{◌≡◌, sym, ◌∙◌, ap}
use mathlib.Core.Logic.{inl, inr, ⊎_elim, by_cases}
use mathlib.Core.Bool.{So, ◌&&◌, cond}
use Prim.Native.Nat.{ℕ, suc, ◌<◌, ◌≤◌}
use native.Mathlib.Omega.{arith}
use native.Mathlib.Decide.{dec_lt}
use lib.Dec.{eqb, ltb}
use borrow.Author.Tests.{ltb-true, lt-ltb, eqb-true, eq-eqb}
use Rattle.std.proofs.lemmas.Bool.{and_from, and_parts}
use Rattle.laws.proofs.Tests.{by-test}
use Rattle.theory.specs.Truth.{◌≼◌}
use Rattle.theory.specs.declared.answer.Truth.{Truth}
use Rattle.theory.specs.Answers.{Answers, ◌⊑◌, Atoms, wipe}
use Rattle.theory.specs.Rules.{Derived, Refuted}
use Rattle.theory.specs.Steps.{Blocks, wiped, never, Unfounded, Unsupported, Run, start, next, Final}
use Rattle.theory.specs.Levels.{Book, Layers, at_level, under}
use Rattle.theory.proofs.Truth.{≼_refl, ≼_trans}
use Rattle.theory.proofs.Answers.{wipe-≼}
use Rattle.theory.proofs.Steps.{run_keeps}

-- level `n` alone changes between `J` and `K`
pub record Carries (B : Book) (L : Layers B) (n : ℕ) (J K : Answers) : Type 0 where
  pub kept : J ⊑ K
  pub same : (a : ℕ) → (L.level a ≡ n → ⊥) → K a ≼ J a

module _ {B : Book} (L : Layers B) where
  -- a step of level `n` decides atoms of level `n` alone
  run_same : {n : ℕ} {J K : Answers} → Run B.rules (at_level B L n) J K → (a : ℕ) → (L.level a ≡ n → ⊥) → K a ≼ J a
  run_same {J = J} start a ne = ≼_refl (J a)
  run_same (next r s) a ne = (
    λ e. ⊎_elim (run_same r a ne).0 (λ (_, (_, l), h, _). absurd (ne (ap L.level (sym h) ∙ l))) (s.new_true a e),
    λ e. ⊎_elim (run_same r a ne).1
        (⊎_elim (λ ((_, l), _). absurd (ne l)) (λ (U, u, m). absurd (ne (u.closed a m).1))) (s.new_false a e),
  )

  pub run_carries : {n : ℕ} {J K : Answers} → Run B.rules (at_level B L n) J K → Carries B L n J K
  run_carries r = record { kept = run_keeps r; same = run_same r }

  -- a hypothesis sees no atom above its rule's level
  truth_upto : (r : B.rules.Rule) → B.Has r → (h : B.rules.Hypothesis) → B.rules.Uses r h → (A C : Answers) →
      ((a : ℕ) → L.level a ≤ L.level (B.rules.head r) → A a ≼ C a) → B.rules.truth A h ≼ B.rules.truth C h
  truth_upto r has h uses A C p = B.rules.truth_local A C h (λ a m. p a (L.lower r has h uses a m))

  -- the members of `U` below level `n`, and those at level `n`
  low_part : ℕ → Atoms → Atoms
  low_part n U a = U a && ltb (L.level a) n

  at_part : ℕ → Atoms → Atoms
  at_part n U a = U a && eqb (L.level a) n

  low_in : {n : ℕ} (U : Atoms) (a : ℕ) → So (U a) → L.level a < n → So (low_part n U a)
  unfolding low_part
  low_in U a e l = and_from _ _ e (lt-ltb (L.level a) _ l)

  low_of : (n : ℕ) (U : Atoms) (a : ℕ) → So (low_part n U a) → So (U a) × (L.level a < n)
  unfolding low_part
  low_of n U a e = ((and_parts (U a) _ e).0, ltb-true (L.level a) n (and_parts (U a) _ e).1)

  at_in : {n : ℕ} (U : Atoms) (a : ℕ) → So (U a) → L.level a ≡ n → So (at_part n U a)
  unfolding at_part
  at_in U a e l = and_from _ _ e (eq-eqb (L.level a) _ l)

  at_of : (n : ℕ) (U : Atoms) (a : ℕ) → So (at_part n U a) → So (U a) × (L.level a ≡ n)
  unfolding at_part
  at_of n U a e = ((and_parts (U a) _ e).0, eqb-true (L.level a) n (and_parts (U a) _ e).1)

  -- `M` below level `n`, and `K` from there on
  graft : ℕ → Answers → Answers → Answers
  graft n M K a = cond (ltb (L.level a) n) (M a) (K a)

  graft_low : (n : ℕ) (M K : Answers) (a : ℕ) → L.level a < n → M a ≼ graft n M K a
  unfolding graft
  graft_low n M K a l = rw (lt-ltb (L.level a) n l) (≼_refl (M a))

  graft_above : (n : ℕ) (M K : Answers) → ((a : ℕ) → L.level a < n → K a ≼ M a) → K ⊑ graft n M K
  unfolding graft
  graft_above n M K p a =
      by-test (ltb (L.level a) n) (λ e. rw e (p a (ltb-true (L.level a) n e))) (λ e. rw e (≼_refl (K a)))

module _ {B : Book} {L : Layers B} {n : ℕ} {J K : Answers} (C : Carries B L n J K) where
  low_same : (a : ℕ) → L.level a < n → K a ≼ J a
  low_same a l = C.same a (λ e. omega (arith, l, e))

  -- a rule of a lower level reads the same in both
  low_truth : (r : B.rules.Rule) → B.Has r → L.level (B.rules.head r) < n → (h : B.rules.Hypothesis) →
      B.rules.Uses r h → B.rules.truth K h ≼ B.rules.truth J h
  low_truth r has l h uses = truth_upto L r has h uses K J (λ a m. low_same a (omega (arith, l, m)))

  -- what blocks such a rule in the levels up to `n` blocks it in those below: no atom of level `n` is seen, so that
  -- later answers to the lower ones may be grafted on
  low_blocks : (U : Atoms) (r : B.rules.Rule) → B.Has r → L.level (B.rules.head r) < n →
      (h : B.rules.Hypothesis) → B.rules.Uses r h → Blocks B.rules U K r h →
      Blocks B.rules (low_part L n U) J r h
  low_blocks U r has l h uses (wiped e) =
      let W : Atoms = low_part L n U in
      wiped
      ((truth_upto L r has h uses (wipe U K) (wipe W J)
      (λ a m. let l' : L.level a < n = omega (arith, l, m) in
      wipe-≼ U W K J a (λ i. inl (low_in L U a i l')) (λ i. inl (low_of L n U a i).0) (low_same a l'))
      ).1 e)
  low_blocks U r has l h uses (never c f) =
      let W : Atoms = low_part L n U in
      never c
      (λ M p t.
      let G : Answers = graft L n M K in
      f G (graft_above L n M K (λ a l'. ≼_trans (low_same a l') (p a)))
      ((truth_upto L r has h uses (wipe W M) (wipe U G)
      (λ a m. let l' : L.level a < n = omega (arith, l, m) in
      wipe-≼ W U M G a (λ i. inl (low_of L n U a i).0) (λ i. inl (low_in L U a i l')) (graft_low L n M K a l'))
      ).0 t))

  module _ (fin : Final B.rules (under B L n) J) where
    -- of a set that is unfounded in the levels up to `n`, what lies below `n` was false already
    low_false : {U : Atoms} → Unfounded B.rules (under B L (suc n)) U K → (a : ℕ) → So (U a) → L.level a < n →
        K a ≡ Truth.False
    low_false {U} u a m l =
        (C.kept a).1
        (fin.has_unfounded a (
          low_part L n U,
          record {
            closed = λ b i. let (ib, lb) = low_of L n U b i in ((u.closed b ib).0, lb);
            none_true = λ b i t. u.none_true b (low_of L n U b i).0 ((C.kept b).0 t);
            blocked = λ r (has, lr) i.
                let (h, uses, blocks) = u.blocked r (has, omega (arith, lr)) (low_of L n U (B.rules.head r) i).0 in
                (h, uses, low_blocks U r has lr h uses blocks);
          },
          low_in L U a m l,
        ))

    -- what level `n` has to show is asked for in the three arguments
    pub final_up : ((a : ℕ) → Derived B.rules (at_level B L n) K a → K a ≡ Truth.True) →
        ((a : ℕ) → B.Complete a → L.level a ≡ n → Refuted B.rules (at_level B L n) K a → K a ≡ Truth.False) →
        ((a : ℕ) → L.level a ≡ n → Unsupported B.rules (under B L (suc n)) K a → K a ≡ Truth.False) →
        Final B.rules (under B L (suc n)) K
    final_up ft ff fu = record {
      has_true = λ a (r, (has, l), e, b).
          by_cases (dec_lt (L.level (B.rules.head r)) n)
          (λ l'. (C.kept a).0 (fin.has_true a (r, (has, l'), e, λ h uses. (low_truth r has l' h uses).0 (b h uses))))
          (λ g. ft a (r, (has, omega (arith, l, g)), e, b));
      has_false = λ a (c, l) f.
          by_cases (dec_lt (L.level a) n)
          (λ l'. (C.kept a).1
          (fin.has_false a (c, l')
          (λ r (has, lr) e. let (h, uses, x) = f r (has, omega (arith, lr)) e in
          (h, uses, (low_truth r has lr h uses).1 x))))
          (λ g. ff a c (omega (arith, l, g)) (λ r (has, lr) e. f r (has, omega (arith, lr)) e));
      has_unfounded = λ a (U, u, m).
          by_cases (dec_lt (L.level a) n) (low_false u a m) (λ g. fu a (omega (arith, (u.closed a m).1, g)) (U, u, m));
    }

    -- at an uncertain level, what lies there of an unfounded set is unfounded by that level's rules alone
    module _ (uncertain : (a : ℕ) → L.level a ≡ n → B.rules.Certain a → ⊥) {U : Atoms}
        (u : Unfounded B.rules (under B L (suc n)) U K) where
      -- what lies lower is false already, so that it need not count as false
      at_blocks : (r : B.rules.Rule) → B.Has r → L.level (B.rules.head r) ≡ n → (h : B.rules.Hypothesis) →
          B.rules.Uses r h → Blocks B.rules U K r h → Blocks B.rules (at_part L n U) K r h
      at_blocks r has l h uses (wiped e) =
          let W : Atoms = at_part L n U in
          wiped
          ((truth_upto L r has h uses (wipe U K) (wipe W K)
          (λ a m. wipe-≼ U W K K a
          (λ i. by_cases (dec_lt (L.level a) n) (λ l'. inr (low_false u a i l'))
          (λ g. inl (at_in L U a i (omega (arith, l, m, g)))))
          (λ i. inl (at_of L n U a i).0) (≼_refl (K a)))
          ).1 e)
      at_blocks r has l h uses (never c f) = absurd (uncertain (B.rules.head r) l c)

      at_unfounded : Unfounded B.rules (at_level B L n) (at_part L n U) K
      at_unfounded = record {
        closed = λ a i.
            let (m, l) = at_of L n U a i in ⊎_elim (λ c. (c, l)) (λ c. absurd (uncertain a l c)) (u.closed a m).0;
        none_true = λ a i. u.none_true a (at_of L n U a i).0;
        blocked = λ r (has, l) i.
            let (h, uses, blocks) = u.blocked r (has, omega (arith, l)) (at_of L n U (B.rules.head r) i).0 in
            (h, uses, at_blocks r has l h uses blocks);
      }

      pub at_unsupported : (a : ℕ) → L.level a ≡ n → So (U a) → Unsupported B.rules (at_level B L n) K a
      at_unsupported a l m = (at_part L n U, at_unfounded, at_in L U a m l)
