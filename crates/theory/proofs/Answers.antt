-- Answers compared, with and without a set of atoms that counts as false. Assumes nothing.
use mathlib.Core.Path.{◌≡◌, refl, fun_ext}
use mathlib.Core.Logic.{◌⊎◌, inl, inr, ⊎_elim}
use mathlib.Core.Bool.{Bool, true, false, cond, So, false≢true}
use Prim.Native.Nat.{ℕ}
use Rattle.theory.specs.Truth.{◌≼◌}
use Rattle.theory.specs.declared.answer.Truth.{Truth}
use Rattle.theory.specs.Answers.{Answers, ◌⊑◌, Atoms, wipe, NoneTrue}
use Rattle.theory.proofs.Truth.{clash, ≼_refl, ≼_trans, ≼_antisym}

pub ⊑_refl : (A : Answers) → A ⊑ A
⊑_refl A a = ≼_refl (A a)

pub ⊑_trans : {A B C : Answers} → A ⊑ B → B ⊑ C → A ⊑ C
⊑_trans p q a = ≼_trans (p a) (q a)

pub ⊑_antisym : (A B : Answers) → A ⊑ B → B ⊑ A → A ≡ B
⊑_antisym A B p q = fun_ext (λ a. ≼_antisym (A a) (B a) (p a) (q a))

pub wipe_in : (U : Atoms) (A : Answers) (a : ℕ) → So (U a) → wipe U A a ≡ Truth.False
wipe_in U A a e = rw e

-- the one comparison of two wiped answers, at one atom
pub wipe-≼ : (U W : Atoms) (A B : Answers) (a : ℕ) → (So (U a) → So (W a) ⊎ (B a ≡ Truth.False)) →
    (So (W a) → So (U a) ⊎ (A a ≡ Truth.True → ⊥)) → A a ≼ B a → wipe U A a ≼ wipe W B a
wipe-≼ U W A B a = cond-≼ (U a) (W a) (A a) (B a)
  where
    cond-≼ : (b c : Bool) (x y : Truth) → (So b → So c ⊎ (y ≡ Truth.False)) → (So c → So b ⊎ (x ≡ Truth.True → ⊥)) →
        x ≼ y → cond b Truth.False x ≼ cond c Truth.False y
    cond-≼ true true x y f g p = ≼_refl Truth.False
    cond-≼ true false x y f g p =
        (λ e. absurd (clash e refl), λ _. ⊎_elim (λ e. absurd (false≢true e)) (λ e. e) (f refl))
    cond-≼ false true x y f g p =
        (λ e. ⊎_elim (λ q. absurd (false≢true q)) (λ n. absurd (n e)) (g refl), λ _. refl)
    cond-≼ false false x y f g p = p

pub wipe_mono : (U : Atoms) {A B : Answers} → A ⊑ B → wipe U A ⊑ wipe U B
wipe_mono U {A} {B} p a = wipe-≼ U U A B a inl inl (p a)

-- what lies below `B` and has no member of `U` true lies below `B` with `U` made false
pub wipe_over : (U : Atoms) {A B : Answers} → NoneTrue U A → A ⊑ B → A ⊑ wipe U B
wipe_over U {A} {B} f p a =
    wipe-≼ (λ _. false) U A B a (λ e. absurd (false≢true e)) (λ m. inr (f a m)) (p a)
