-- What the contracts of this crate say beside document 01's definitions.
-- which predicates a level has
pub mod Levels
