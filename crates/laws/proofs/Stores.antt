-- A fact of an entry after a store: of what was stored, or of what stood there before. Assumes nothing.
use mathlib.Core.Path.{◌≡◌, sym}
use mathlib.Core.List.{List}
use Prim.Native.Nat.{ℕ, ◌<◌}
use lib.Dec.{eqb}
use lib.ListN.{length, get_or, set}
use lib.Seq.{get_or-set_other, get_or-set_same}
use borrow.Author.Tests.{eqb-false, eqb-true}
use Rattle.laws.proofs.Tests.{by-test}

pub stored : (P : ℕ → Type 0) (xs : List ℕ) (i x r : ℕ) → i < length xs → (i ≡ x → P r) →
    ((i ≡ x → ⊥) → P (get_or xs x 0)) → P (get_or (set xs i r) x 0)
stored P xs i x r l here other =
    by-test (eqb i x)
    (λ t. let q : i ≡ x = eqb-true i x t in rw (← q, get_or-set_same xs i r 0 l) (here q))
    (λ f. let n = eqb-false i x f in rw (get_or-set_other xs i x r 0 (λ q. n (sym q))) (other n))
