-- What the contracts of this crate say beside document 01's definitions.
-- answers as they are held in memory
pub mod Held
-- the elements of a range as read
pub mod Ranges
-- what max and min gather of elements
pub mod Gathered
