-- The laws of the theory, in reading order. Assumes nothing.
-- the three answers and what keeps them
pub mod Truth
-- answers compared, and sets of atoms that count as false
pub mod Answers
-- what a run decides stays, and stays below a final end
pub mod Steps
-- a run never contradicts itself
pub mod Consistent
-- a run of a part is a run of the whole
pub mod Embed
-- one level more is final where the levels below it are
pub mod Carry
-- the levels one after the other end where one run over all rules ends
pub mod Merge
-- one model, and more given answers take nothing back
pub mod Model
