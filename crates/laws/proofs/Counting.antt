-- How many entries pass a test, and that a map over places which clears some of them and leaves the rest lowers the
-- number. Assumes nothing.
use mathlib.Core.Path.{◌≡◌, refl, ap₂}
use mathlib.Core.Logic.{◌⊎◌, inl, inr, ⊎_elim}
use mathlib.Core.Bool.{Bool, false, cond, So}
use mathlib.Core.List.{List, [], ◌∷◌}
use Prim.Native.Nat.{ℕ, suc, ◌+◌, ◌<◌, ◌≤◌}
use native.Mathlib.Omega.{arith}
use lib.ListN.{length}
use Rattle.std.specs.List.{count_by}
use Rattle.std.proofs.lemmas.List.Sums.{count_by-le-length, sum_by-cons}
use Rattle.laws.specs.Lists.{map_at}

module _ {X : Type 0} (p : X → Bool) where
  -- how many entries pass
  abbrev pub number : List X → ℕ
  number = count_by p

  pub number_more : (x : X) (xs : List X) → number (x ∷ xs) ≡ cond (p x) 1 0 + number xs
  number_more = sum_by-cons (λ x. cond (p x) 1 0)

  -- no more pass than there are
  pub number_most_lem : (xs : List X) → number xs ≤ length xs
  number_most_lem = count_by-le-length p

  module _ (f : ℕ → X → X) where
    -- an entry is left, or it passed the test and no longer does
    abbrev pub Clears : ℕ → X → Type 0
    Clears i x = (f i x ≡ x) ⊎ (So (p x) × (p (f i x) ≡ false))

    -- if each entry is left or cleared, nothing changes or the number falls
    pub clears_falls : ((i : ℕ) (x : X) → Clears i x) → (i : ℕ) (xs : List X) →
        (map_at f i xs ≡ xs) ⊎ (number (map_at f i xs) < number xs)
    clears_falls c i [] = inl refl
    clears_falls c i (x ∷ xs) =
        let rest = clears_falls c (suc i) xs in
        ⊎_elim
        (λ e. ⊎_elim (λ es. inl (ap₂ {C = List X} (λ y ys. y ∷ ys) e es))
        (λ l. inr (rw (number_more (f i x) (map_at f (suc i) xs), number_more x xs, e) (omega (arith, l)))) rest)
        (λ (t, n). inr (rw (number_more (f i x) (map_at f (suc i) xs), number_more x xs, n, t)
        (⊎_elim (λ es. rw es (omega arith)) (λ l. omega (arith, l)) rest)))
        (c i x)
