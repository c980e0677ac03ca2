-- What the listing program prints, and what its functions write.
-- the program's text
pub mod Text
-- what is promised of it
pub mod Listing
-- how long texts are at most, and that there is room
pub mod Widths
