-- What the contracts of this crate say beside document 01's definitions.
-- a book as its rules and levels, and the answers that step (c) assumes
pub mod Work
-- what a round may do to each atom
pub mod Due
-- step (c) by striking out
pub mod Strike
-- a search of step (c)
pub mod Search
-- what a round gathers, and what it leaves
pub mod Round
