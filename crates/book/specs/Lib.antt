-- What the contracts of this crate say beside document 01's definitions.
-- records by their numbers
pub mod Records
-- a book whose tables stand where they should, and whose indices are in them
pub mod Framed
