-- Answers held in memory: read, one of them written, and the first of them alone. Assumes nothing.
use mathlib.Core.Path.{◌≡◌, refl, sym, ◌∙◌}
use mathlib.Core.Logic.{by_cases}
use mathlib.Core.List.{List}
use Prim.Native.Nat.{ℕ, ◌<◌, ◌≤◌}
use native.Mathlib.Decide.{dec_lt}
use native.Mathlib.Omega.{arith}
use lib.ListN.{get_or, get_or-replicate, length, length-replicate, replicate, set, take}
use lib.Seq.{ext_get_or, get_or-set_other, get_or-set_same, get_or-take, length-take-le}
use Rattle.std.proofs.lemmas.List.{get_or_past}
use Rattle.theory.specs.declared.answer.Truth.{Truth}
use Rattle.meaning.specs.Format.{atom_count}
use Rattle.meaning.specs.Model.{answers_of}
use Rattle.book.specs.Framed.{Framed}
use Rattle.judge.specs.Held.{held}

-- the model reads answers in the same way
pub read_held : (A : List Truth) → answers_of A ≡ held A
unfolding held
read_held A = refl

-- one answer written
module _ (W : List Truth) (h : ℕ) (x : Truth) where
  pub held_same : h < length W → held (set W h x) h ≡ x
  unfolding held
  held_same l = get_or-set_same W h x Truth.Undefined l

  pub held_other : (a : ℕ) → (a ≡ h → ⊥) → held (set W h x) a ≡ held W a
  unfolding held
  held_other a n = get_or-set_other W h a x Truth.Undefined n

-- the first n answers are those of A
pub taken : (W A : List Truth) (n : ℕ) → length A ≡ n → n ≤ length W → ((a : ℕ) → a < n → held W a ≡ held A a) →
    take n W ≡ A
unfolding held
taken W A n s l h =
    let k : length (take n W) ≡ n = length-take-le n W l in
    ext_get_or Truth.Undefined (take n W) A (k ∙ sym s)
    (λ a m. let j : a < n = omega (arith, m, k, s) in get_or-take n W a Truth.Undefined j ∙ h a j)

-- past the end all is undefined
pub held_out : (W : List Truth) (a : ℕ) → length W ≤ a → held W a ≡ Truth.Undefined
unfolding held
held_out W a l = get_or_past W a Truth.Undefined l

-- a list of defaults, read anywhere
pub replicated : {X : Type 0} (n a : ℕ) (d : X) → get_or (replicate n d) a d ≡ d
replicated n a d =
    by_cases (dec_lt a n) (get_or-replicate n a d d)
    (λ o. get_or_past (replicate n d) a d (omega (arith, o, length-replicate n d)))

-- and where nothing is written yet
pub held_none : (n a : ℕ) → held (replicate n Truth.Undefined) a ≡ Truth.Undefined
unfolding held
held_none n a = replicated n a Truth.Undefined

-- the array of 2048 has room for all atoms
pub few : (b : List ℕ) → Framed b → atom_count b ≤ 2048
few b F = F.counts 1 (omega arith)
