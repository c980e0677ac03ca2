-- Document 01's number and place for each refusal of the code, and what a check's answer says. Assumes nothing.
use Rattle.std.specs.Prelude.{Result, Ok, Err}
use Rattle.std.proofs.Math.Option.{Option, none, some}
use Rattle.meaning.specs.Refusal as meaning
use Rattle.meaning.specs.Refusal.{refuse}
use Rattle.checks.specs.declared.refusal.Refusal.{Refusal}
use Rattle.checks.specs.declared.refusal.Refusal.TheVariants.{Certainty, Code, Count, End, Given, Height, Index}
use Rattle.checks.specs.declared.refusal.Refusal.TheVariants.{Length, Mixture, Offset, Pair, Room, Sign}

-- what a refusal says
abbrev pub said : Refusal → meaning.Refusal
said Length = refuse 1 0 0
said (Count table) = refuse 2 table 0
said (Offset table) = refuse 3 table 0
said End = refuse 3 0 0
said (Code table row) = refuse 4 table row
said (Index table row) = refuse 5 table row
said (Pair comparison) = refuse 6 5 comparison
said (Given atom) = refuse 7 2 atom
said (Mixture predicate) = refuse 8 1 predicate
said (Height rule) = refuse 9 3 rule
said (Sign rule) = refuse 10 3 rule
said (Certainty rule) = refuse 11 3 rule
said Room = refuse 12 0 0

-- a check that passes refuses nothing, whatever it hands on
abbrev pub refused : {X : Type 0} → Result X Refusal → Option meaning.Refusal
refused (Ok x) = none
refused (Err r) = some (said r)
