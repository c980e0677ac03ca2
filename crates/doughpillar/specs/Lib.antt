-- What the contracts of this crate say beside document 01's definitions.
-- what a book says of itself
pub mod Contents
