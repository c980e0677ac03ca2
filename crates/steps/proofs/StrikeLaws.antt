-- How many atoms are only assumed false: as many at two lists of answers that agree, and one fewer after a strike.
-- Assumes nothing.
use mathlib.Core.Path.{◌≡◌, refl}
use mathlib.Core.Logic.{by_cases}
use mathlib.Core.Bool.{Bool, true, false, cond}
use mathlib.Core.List.{List}
use Prim.Native.Nat.{ℕ, zero, suc, ◌+◌, ◌<◌}
use native.Mathlib.Decide.{dec_lt}
use native.Mathlib.Omega.{arith}
use lib.ListN.{length, set}
use Rattle.theory.specs.declared.answer.Truth.{Truth}
use Rattle.judge.specs.Held.{held}
use Rattle.steps.specs.Strike.{only_assumed, waiting}
use Rattle.steps.proofs.WorkLaws.{held_other, held_same}

module _ (A W X : List Truth) where
  pub waiting_same : (i : ℕ) → ((a : ℕ) → a < i → held X a ≡ held W a) → waiting A X i ≡ waiting A W i
  unfolding waiting
  waiting_same zero h = refl
  waiting_same (suc i) h = rw (waiting_same i (λ a l. h a (omega (arith, l))), h i (omega arith))

module _ (A W : List Truth) (h : ℕ) (l : h < length W) (t : only_assumed A W h ≡ true) where
  pub waiting_struck : (i : ℕ) → h < i → waiting A (set W h Truth.Undefined) i + 1 ≡ waiting A W i
  unfolding waiting
  waiting_struck zero m = absurd (omega (arith, m))
  waiting_struck (suc i) m =
      by_cases (dec_lt h i)
      (λ o. rw (held_other W h Truth.Undefined i (λ q. omega (arith, o, q))) (omega (arith, waiting_struck i o)))
      (λ o.
      let q : h ≡ i = omega (arith, m, o) in
      rw (
        ← q,
        t,
        held_same W h Truth.Undefined l,
        waiting_same A W (set W h Truth.Undefined) h
            (λ a n. held_other W h Truth.Undefined a (λ e. omega (arith, n, e))),
      ) (omega arith))

-- and none where none is counted
pub waiting_none : (A W : List Truth) (i : ℕ) → waiting A W i ≡ 0 → (a : ℕ) → a < i → only_assumed A W a ≡ false
unfolding waiting
waiting_none A W zero e a l = absurd (omega (arith, l))
waiting_none A W (suc i) e a l =
    let (before, here) = parts (waiting A W i) (only_assumed A W i) e in
    by_cases (dec_lt a i) (waiting_none A W i before a)
    (λ o. let q : i ≡ a = omega (arith, l, o) in rw (← q) here)
  where
    parts : (n : ℕ) (t : Bool) → n + cond t 1 0 ≡ 0 → (n ≡ 0) × (t ≡ false)
    parts n true e = absurd (omega (arith, e))
    parts n false e = (omega (arith, e), refl)
