-- The words of the theory, in reading order.
-- the three answers, and what it means to keep one
pub mod Truth
-- an answer for each atom; sets of atoms that count as false
pub mod Answers
-- rules without their content: what the theory asks of them
pub mod Rules
-- steps, runs and their end
pub mod Steps
-- levels, one after the other
pub mod Levels
