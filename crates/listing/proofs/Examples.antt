-- The listing program's examples, computed on the bytes of their books. Assumes nothing.
use mathlib.Core.Path.{◌≡◌, refl}
use mathlib.Core.List.{[], ◌∷◌, ◌++◌}
use lib.Chars.{codes}
use Rattle.meaning.proofs.Examples.{everything}
use Rattle.meaning.specs.declared.codes.Kind.TheVariants.{Certain, Complete}
use Rattle.meaning.specs.Examples.Notation.{is}
use Rattle.meaning.specs.Examples.Marked as Marked
use Rattle.listing.specs.Text as Text
use Rattle.listing.specs.Text.{listing_of}

-- one name that opens every definition of the text
unfoldable text : Unit {0}
unfolding everything Text.decimal_in Text.line_of Text.lines_of Text.answers_text Text.spaced Text.place_text
    Text.refused_text Text.text_of Text.listing_of
text = tt

-- a ← b; b ← a; c ← not a, one closed predicate at level 0
pub listing_four : listing_of Marked.listing ≡ codes "answers 3\n0 false\n1 false\n2 true\n"
unfolding text
listing_four = refl

-- p ← p, complete
pub listing_undefined : listing_of (Marked.alone Complete (is 0)) ≡ codes "answers 1\n0 undefined\n"
unfolding text
listing_undefined = refl

-- no bytes at all
pub listing_empty : listing_of [] ≡ codes "refused 1 0 0\n"
unfolding text
listing_empty = refl

-- a level of 128, in the second record of table 1
pub listing_level : listing_of (Marked.fact_at 128) ≡ codes "refused 4 1 1\n"
unfolding text
listing_level = refl

-- a ← count{a,b} = 1, certain
pub listing_certain : listing_of (Marked.one_of Certain) ≡ codes "refused 10 3 0\n"
unfolding text
listing_certain = refl

-- one byte too many
pub listing_long : listing_of (Marked.listing ++ 0 ∷ []) ≡ codes "refused 3 0 0\n"
unfolding text
listing_long = refl
