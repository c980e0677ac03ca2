-- Theorems of the functions that C calls.
-- the demands, of the entry
pub mod EntryDemands
