-- Laws of this crate, in reading order.
-- what was read
pub mod InputLaws
-- numbers in decimal
pub mod DecimalLaws
-- pieces of the text, and lines
pub mod TextLaws
-- refusals that can be taken apart
pub mod SmallLaws
-- the program's are such
pub mod RefusalLaws
-- the listing of a book
pub mod ListingLaws
-- what is promised of it
pub mod Listing
-- what was read, and what is written of it
pub mod RunLaws
-- the examples, computed
pub mod Examples
