-- Chains of refusals: the first of several, by its place. Assumes nothing.
use mathlib.Core.Path.{◌≡◌, refl}
use mathlib.Core.List.{List, [], ◌∷◌}
use mathlib.Core.Option.{Option, none, some}
use Prim.Native.Nat.{ℕ, zero, suc, ◌<◌}
use lib.ListN.{length, get_or}
use native.Mathlib.Omega.{arith}
use Rattle.meaning.specs.Refusal.{Refusal, first_of}

-- the first of a list of refusals, by its place
pub first_at : (rs : List (Option Refusal)) (k : ℕ) (r : Refusal) → k < length rs →
    ((j : ℕ) → j < k → get_or rs j none ≡ none) → get_or rs k none ≡ some r → first_of rs ≡ some r
first_at [] k r l before e = absurd (omega (arith, l))
first_at (o ∷ rs) zero r l before e = rw e
first_at (o ∷ rs) (suc k) r l before e =
    let here : o ≡ none = before 0 (omega arith) in
    rw here (first_at rs k r (omega (arith, l)) (λ j m. before (suc j) (omega (arith, m))) e)

pub first_none : (rs : List (Option Refusal)) → ((j : ℕ) → j < length rs → get_or rs j none ≡ none) → first_of rs ≡ none
first_none [] h = refl
first_none (o ∷ rs) h =
    let here : o ≡ none = h 0 (omega arith) in
    rw here (first_none rs (λ j m. h (suc j) (omega (arith, m))))
