-- What the tests of a kind say, and that an atom of a kind other than open is in the table. Assumes nothing.
use mathlib.Core.Path.{◌≡◌, refl, sym, ap, ◌∙◌}
use mathlib.Core.Bool.{So, false≢true}
use mathlib.Core.Logic.{inl, inr}
use mathlib.Core.List.{List}
use Prim.Native.Nat.{ℕ, ◌<◌}
use lib.ListN.{length}
use Rattle.laws.proofs.Places.{place_in}
use Rattle.meaning.specs.Reading.{is_certain, is_closed, is_complete, is_open, kind_at}
use Rattle.meaning.specs.declared.codes.Kind.{Kind}
use Rattle.meaning.specs.Founded.{Complete}

-- what each test says
pub certain_of : (k : Kind) → So (is_certain k) → k ≡ Kind.Certain
certain_of Kind.Certain e = refl
certain_of Kind.Open e = absurd (false≢true e)
certain_of Kind.Complete e = absurd (false≢true e)
certain_of Kind.Closed e = absurd (false≢true e)

pub open_of : (k : Kind) → So (is_open k) → k ≡ Kind.Open
open_of Kind.Certain e = absurd (false≢true e)
open_of Kind.Open e = refl
open_of Kind.Complete e = absurd (false≢true e)
open_of Kind.Closed e = absurd (false≢true e)

pub closed_of : (k : Kind) → So (is_closed k) → k ≡ Kind.Closed
closed_of Kind.Certain e = absurd (false≢true e)
closed_of Kind.Open e = absurd (false≢true e)
closed_of Kind.Complete e = absurd (false≢true e)
closed_of Kind.Closed e = refl

pub complete_of : (k : Kind) → So (is_complete k) → Complete k
complete_of Kind.Certain e = absurd (false≢true e)
complete_of Kind.Open e = absurd (false≢true e)
complete_of Kind.Complete e = inl refl
complete_of Kind.Closed e = inr refl

-- and what passes the last
pub of_complete : (k : Kind) → Complete k → So (is_complete k)
of_complete k (inl e) = ap is_complete e
of_complete k (inr e) = ap is_complete e

-- a certain atom is neither closed nor complete
pub certain≢closed : {k : Kind} → k ≡ Kind.Certain → k ≡ Kind.Closed → ⊥
certain≢closed p q = false≢true (sym (ap is_complete p) ∙ ap is_complete q)

pub not_complete : {k : Kind} → k ≡ Kind.Certain → Complete k → ⊥
not_complete {k} p c = false≢true (sym (ap is_complete p) ∙ of_complete k c)

-- an open atom is of no other kind
pub open_not_certain : {k : Kind} → k ≡ Kind.Open → k ≡ Kind.Certain → ⊥
open_not_certain p q = false≢true (sym (ap is_certain p) ∙ ap is_certain q)

pub open_not_closed : {k : Kind} → k ≡ Kind.Open → k ≡ Kind.Closed → ⊥
open_not_closed p q = false≢true (sym (ap is_complete p) ∙ ap is_complete q)

pub open_not_complete : {k : Kind} → k ≡ Kind.Open → Complete k → ⊥
open_not_complete {k} p c = false≢true (sym (ap is_complete p) ∙ of_complete k c)

-- an atom that no table has is open
module _ (kinds : List Kind) (a : ℕ) where
  pub closed_in : kind_at kinds a ≡ Kind.Closed → a < length kinds
  closed_in e = place_in Kind.Open kinds a (λ o. open_not_closed o e)

  pub certain_in : kind_at kinds a ≡ Kind.Certain → a < length kinds
  certain_in e = place_in Kind.Open kinds a (λ o. open_not_certain o e)

  pub complete_in : Complete (kind_at kinds a) → a < length kinds
  complete_in c = place_in Kind.Open kinds a (λ o. open_not_complete o c)
