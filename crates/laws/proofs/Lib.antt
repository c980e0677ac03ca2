-- Laws that name nothing of ours, in reading order. Assumes nothing.
-- tests and what they say
pub mod Tests
-- entries of lists, and tests over all of them
pub mod Entries
-- searches for the first fault
pub mod Searches
-- entries by their place
pub mod Places
-- an entry after a store
pub mod Stores
-- a function repeated until nothing changes
pub mod Repeats
-- tests over the numbers below a bound
pub mod Numbers
-- parts of lists
pub mod Ranges
-- the last entry of a list
pub mod Lasts
-- chains over the numbers of a range
pub mod Chains
-- a number that stands twice
pub mod Twice
-- how many entries pass a test
pub mod Counting
-- the size of a sum
pub mod Sizes
-- integers of 64 bits
pub mod Signed
