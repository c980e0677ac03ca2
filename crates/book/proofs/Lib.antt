-- Laws of this crate, in reading order.
-- how many records the tables have
pub mod Counts
-- where records stand
pub mod Places
-- the records themselves
pub mod RecordLaws
-- kinds and levels of atoms
pub mod AtomLaws
-- what the absence of refusal 5 gives
pub mod IndexLaws
