-- What a round may do to each atom, by its number of steps. Assumes nothing.
use mathlib.Core.Path.{◌≡◌, refl}
use mathlib.Core.Bool.{false}
use lib.Dec.{eqb, leb}
use Rattle.meaning.specs.Reading.{is_closed, is_complete}
use Rattle.meaning.specs.declared.codes.Kind.{Kind}
use Rattle.steps.specs.Due.{steps_of}

pub steps_some : (k : Kind) → eqb (steps_of k) 0 ≡ false
steps_some Kind.Certain = refl
steps_some Kind.Open = refl
steps_some Kind.Complete = refl
steps_some Kind.Closed = refl

pub steps_two : (k : Kind) → leb 2 (steps_of k) ≡ is_complete k
steps_two Kind.Certain = refl
steps_two Kind.Open = refl
steps_two Kind.Complete = refl
steps_two Kind.Closed = refl

pub steps_three : (k : Kind) → eqb (steps_of k) 3 ≡ is_closed k
steps_three Kind.Certain = refl
steps_three Kind.Open = refl
steps_three Kind.Complete = refl
steps_three Kind.Closed = refl
