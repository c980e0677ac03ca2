-- The examples come out as document 01 says: one statement, proved by computing on the books' bytes. Assumes nothing.
use mathlib.Core.Path.{refl}
use mathlib.Core.List.{List, [], ◌∷◌, ◌++◌}
use Rattle.laws.specs.Lists.{Every, times}
use Rattle.meaning.specs.Format as Format
use Rattle.meaning.specs.Reading as Reading
use Rattle.meaning.specs.Refusal as Refusal
use Rattle.meaning.specs.Truth as Truth
use Rattle.meaning.specs.Model as Model
use Rattle.meaning.specs.Outcome.{model_of, outcome, settle, written as filled}
use Rattle.meaning.specs.Writing as Writing
use Rattle.meaning.specs.Examples.Notation.{Example}
use Rattle.meaning.specs.Examples.{Right, Written, examples}
use Rattle.meaning.specs.Examples.Marked as Marked
use Rattle.meaning.specs.Examples.Models as Models
use Rattle.meaning.specs.Examples.Refused as Refused

-- the bytes of a book, and its tables
unfoldable pub format : Unit {0}
unfolding Format.offset_of Format.count_of Format.start Format.body Format.tables
format = tt

-- rules laid out as tables
unfoldable pub layout : Unit {0}
unfolding Writing.rule_records Writing.hypothesis_records Writing.comparison_records Writing.lay
layout = tt

-- tables written as bytes
unfoldable pub writing : Unit {0}
unfolding layout Writing.counts Writing.entries Writing.bodies Writing.book_of
writing = tt

-- records as read
unfoldable pub record_reading : Unit {0}
unfolding Reading.element_of Reading.elements_of Reading.comparison_of Reading.hypothesis_of Reading.rule_of
record_reading = tt

-- rules as read
unfoldable pub reading : Unit {0}
unfolding record_reading Reading.reading Reading.levels_of Reading.given_of
reading = tt

-- the refusals of bytes and records
unfoldable pub first_refusals : Unit {0}
unfolding Refusal.lowest Refusal.refusal1 Refusal.refusal2 Refusal.refusal3 Refusal.refusal4 Refusal.refusal5
first_refusals = tt

-- the uses of a rule
unfoldable pub usage : Unit {0}
unfolding Refusal.positive_in Refusal.uses_of Refusal.uses
usage = tt

-- the refusals of rules
unfoldable pub later_refusals : Unit {0}
unfolding Refusal.refusal6 Refusal.refusal7 Refusal.refusal8 Refusal.refusal9 Refusal.refusal10 Refusal.refusal11
later_refusals = tt

-- the twelve
unfoldable pub refusal : Unit {0}
unfolding first_refusals usage later_refusals Refusal.refusal12 Refusal.refusal
refusal = tt

-- when a comparison is true
unfoldable pub comparison : Unit {0}
unfolding Truth.literal_truth Truth.least Truth.most Truth.between Truth.extreme Truth.holds Truth.comparison_truth
comparison = tt

-- when a rule body is
unfoldable pub truth : Unit {0}
unfolding comparison Truth.hypothesis_truth Truth.body_truth
truth = tt

-- the greatest unfounded set
unfoldable pub unfounded : Unit {0}
unfolding Model.derived Model.refuted Model.candidates Model.strike Model.unfounded times
unfounded = tt

-- a round
unfoldable pub round : Unit {0}
unfolding unfounded Model.falls Model.decide Model.next Model.round
round = tt

-- the levels
unfoldable pub model : Unit {0}
unfolding round Model.closing Model.close Model.level Model.levels_below Model.model
model = tt

-- one name that opens every shut definition
unfoldable pub everything : Unit {0}
unfolding format writing reading refusal truth model model_of filled settle outcome
everything = tt

-- the entries of a list are right
record Group (es : List Example) : Type 0 where
  right : Every Right es

-- what holds at every entry of two lists holds at every entry of both
joined : (es fs : List Example) → Every Right es → Every Right fs → Every Right (es ++ fs)
joined [] fs p q = q
joined (e ∷ es) fs p q = (p.0, joined es fs p.1 q)

infixl 65 ◌also◌
-- two groups, one after the other
◌also◌ : {es fs : List Example} → Group es → Group fs → Group (es ++ fs)
◌also◌ {es} {fs} g h = record { right = joined es fs g.right h.right }

-- computed, group by group and entry by entry
kinds : Group Marked.kinds
unfolding everything Marked.kinds
kinds = record { right = (refl, (refl, (refl, (refl, (refl, (refl, (refl, (refl, (refl, (refl, tt)))))))))) }

loops : Group Marked.loops
unfolding everything Marked.loops
loops = record { right = (refl, (refl, (refl, (refl, (refl, tt))))) }

open_atoms : Group Marked.open_atoms
unfolding everything Marked.open_atoms
open_atoms = record { right = (refl, (refl, (refl, (refl, (refl, (refl, (refl, tt))))))) }

bounds : Group Marked.bounds
unfolding everything Marked.bounds
bounds = record { right = (refl, (refl, (refl, (refl, (refl, (refl, (refl, (refl, (refl, tt))))))))) }

edges : Group Marked.edges
unfolding everything Marked.edges
edges = record { right = (refl, (refl, (refl, (refl, (refl, (refl, (refl, tt))))))) }

ranges : Group Marked.ranges
unfolding everything Marked.ranges
ranges = record { right = (refl, (refl, (refl, (refl, (refl, (refl, tt)))))) }

sums : Group Models.sums
unfolding everything Models.sums
sums = record { right = (refl, (refl, (refl, (refl, (refl, (refl, (refl, (refl, (refl, (refl, tt)))))))))) }

extremes : Group Models.extremes
unfolding everything Models.extremes
extremes = record { right = (refl, (refl, (refl, (refl, (refl, (refl, (refl, (refl, tt)))))))) }

maxima : Group Models.maxima
unfolding everything Models.maxima
maxima = record { right = (refl, (refl, (refl, (refl, (refl, (refl, (refl, (refl, (refl, (refl, (refl, tt))))))))))) }

minima : Group Models.minima
unfolding everything Models.minima
minima = record { right = (refl, (refl, (refl, (refl, (refl, tt))))) }

largest : Group Models.largest
unfolding everything Models.largest
largest = record { right = (refl, (refl, (refl, (refl, (refl, (refl, (refl, (refl, (refl, (refl, tt)))))))))) }

smallest : Group Models.smallest
unfolding everything Models.smallest
smallest = record { right = (refl, (refl, (refl, (refl, (refl, (refl, (refl, (refl, (refl, (refl, tt)))))))))) }

rounds : Group Models.rounds
unfolding everything Models.rounds
rounds = record { right = (refl, (refl, (refl, (refl, (refl, (refl, (refl, (refl, (refl, (refl, tt)))))))))) }

unfounded_sets : Group Models.unfounded_sets
unfolding everything Models.unfounded_sets
unfounded_sets = record { right = (refl, (refl, (refl, (refl, (refl, (refl, (refl, tt))))))) }

bodies : Group Models.bodies
unfolding everything Models.bodies
bodies = record { right = (refl, (refl, (refl, (refl, (refl, (refl, tt)))))) }

bytes : Group Refused.bytes
unfolding everything Refused.bytes
bytes = record { right = (refl, (refl, (refl, (refl, (refl, (refl, (refl, tt))))))) }

counts : Group Refused.counts
unfolding everything Refused.counts
counts = record { right = (refl, (refl, (refl, (refl, (refl, (refl, (refl, (refl, (refl, (refl, tt)))))))))) }

codes : Group Refused.codes
unfolding everything Refused.codes
codes = record { right = (refl, (refl, (refl, (refl, (refl, (refl, (refl, tt))))))) }

indices : Group Refused.indices
unfolding everything Refused.indices
indices = record { right = (refl, (refl, (refl, (refl, (refl, (refl, (refl, (refl, tt)))))))) }

records : Group Refused.records
unfolding everything Refused.records
records = record { right = (refl, (refl, (refl, (refl, (refl, (refl, (refl, (refl, (refl, (refl, tt)))))))))) }

rules : Group Refused.rules
unfolding everything Refused.rules
rules = record { right = (refl, (refl, (refl, (refl, (refl, (refl, (refl, tt))))))) }

positively : Group Refused.positively
unfolding everything Refused.positively
positively = record { right = (refl, (refl, (refl, (refl, (refl, (refl, (refl, (refl, (refl, (refl, tt)))))))))) }

own_counts : Group Refused.own_counts
unfolding everything Refused.own_counts
own_counts = record { right = (refl, (refl, (refl, (refl, (refl, (refl, (refl, (refl, tt)))))))) }

own_sums : Group Refused.own_sums
unfolding everything Refused.own_sums
own_sums = record { right = (refl, (refl, (refl, (refl, (refl, (refl, tt)))))) }

own_negated_sums : Group Refused.own_negated_sums
unfolding everything Refused.own_negated_sums
own_negated_sums = record { right = (refl, (refl, (refl, (refl, (refl, (refl, tt)))))) }

own_minima : Group Refused.own_minima
unfolding everything Refused.own_minima
own_minima = record { right = (refl, (refl, (refl, (refl, (refl, (refl, (refl, (refl, (refl, (refl, tt)))))))))) }

own_maxima : Group Refused.own_maxima
unfolding everything Refused.own_maxima
own_maxima = record { right = (refl, (refl, (refl, (refl, (refl, (refl, (refl, (refl, (refl, (refl, tt)))))))))) }

order : Group Refused.order
unfolding everything Refused.order
order = record { right = (refl, (refl, (refl, (refl, (refl, (refl, (refl, (refl, (refl, (refl, (refl, tt))))))))))) }

neighbours : Group Refused.neighbours
unfolding everything Refused.neighbours
neighbours = record { right = (refl, (refl, (refl, (refl, (refl, (refl, (refl, (refl, tt)))))))) }

places : Group Refused.places
unfolding everything Refused.places
places = record { right = (refl, (refl, (refl, (refl, tt)))) }

-- all of them
groups : Group examples
unfolding examples
groups =
    kinds also loops also open_atoms also bounds also edges also ranges
    also sums also extremes also maxima also minima also largest also smallest
    also rounds also unfounded_sets also bodies
    also bytes also counts also codes also indices also records also rules
    also positively also own_counts also own_sums also own_negated_sums also own_minima also own_maxima
    also order also neighbours also places

-- every example is right
pub right : Every Right examples
right = groups.right

-- and the bytes are as said
pub written : Written
unfolding everything
written =
    record {
      empty_long = refl;
      empty_offsets = refl;
      empty_counts = refl;
      long = refl;
      offsets = refl;
      counts = refl;
      bodies = refl;
      sum_bodies = refl;
    }
