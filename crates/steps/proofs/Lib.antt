-- Laws of this crate, in reading order.
-- answers held in memory: read, written, the first of them alone
pub mod WorkLaws
-- what a round may do to each atom
pub mod DueLaws
-- the loop that gathers
pub mod GatherLaws
-- what a round gathers is what steps (a) and (b) ask
pub mod HeadLaws
-- why striking out finds the greatest unfounded set
pub mod AssumedLaws
-- which rules have a false body at what is assumed
pub mod FailLaws
-- what a search knows of bodies
pub mod KnownLaws
-- how many atoms are left to strike
pub mod StrikeLaws
-- what is assumed at the start
pub mod StartLaws
-- a search: strikes, passes, its end
pub mod SearchLaws
-- the loop that writes
pub mod SettleLaws
-- what it writes is the model's next answer
pub mod NextLaws
-- a round of the code is a round of the model
pub mod RoundLaws
