-- What the contracts of this crate say beside document 01's definitions.
-- what a refusal of the code says
pub mod Refused
-- checks 4 and 5, table by table
pub mod Faults
-- check 7, by the marked heads of rules
pub mod Marks
-- checks 9 to 11, use by use
pub mod Uses
