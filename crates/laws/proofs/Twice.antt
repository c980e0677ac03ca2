-- A number stands twice in a list exactly if it stands at two places. Assumes nothing.
use mathlib.Core.Path.{◌≡◌, refl}
use mathlib.Core.Bool.{false, So}
use mathlib.Core.List.{List, [], ◌∷◌}
use Prim.Native.Nat.{ℕ, zero, suc, ◌<◌}
use native.Mathlib.Omega.{arith}
use lib.Dec.{eqb}
use lib.ListN.{length, get_or}
use borrow.Author.Tests.{eq-eqb, ne_eqb}
use Rattle.laws.specs.Lists.{any, twice}
use Rattle.std.proofs.lemmas.List.Folds.{list_any_at}
use Rattle.std.proofs.lemmas.List.Recursion.{or_from_places}
use Rattle.std.proofs.lemmas.Bool.{or_left, or_right}

pub pair_twice : (xs : List ℕ) (i j : ℕ) → i < j → j < length xs → get_or xs i 0 ≡ get_or xs j 0 → So (twice xs)
pair_twice [] i j l m e = absurd (omega (arith, m))
pair_twice (x ∷ xs) i zero l m e = absurd (omega (arith, l))
pair_twice (x ∷ xs) zero (suc j) l m e =
    or_left (any (eqb x) xs) (twice xs)
    (list_any_at (eqb x) xs j 0 (omega (arith, m)) (eq-eqb x (get_or xs j 0) e))
pair_twice (x ∷ xs) (suc i) (suc j) l m e =
    or_right (any (eqb x) xs) (twice xs) (pair_twice xs i j (omega (arith, l)) (omega (arith, m)) e)

pub twice_none : (xs : List ℕ) → ((i j : ℕ) → i < j → j < length xs → get_or xs i 0 ≡ get_or xs j 0 → ⊥) →
    twice xs ≡ false
twice_none [] h = refl
twice_none (x ∷ xs) h =
    let first : any (eqb x) xs ≡ false = or_from_places (any (eqb x)) (eqb x) refl (λ _ _. refl) xs 0
    (λ j l. ne_eqb x (get_or xs j 0) (h 0 (suc j) (omega arith) (omega (arith, l)))) in
    rw first (twice_none xs (λ i j l m e. h (suc i) (suc j) (omega (arith, l)) (omega (arith, m)) e))
