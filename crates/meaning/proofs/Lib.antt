-- Laws of the definitions, in reading order. Assumes nothing.
-- the six relations
pub mod Relations
-- how two answers may differ at elements
pub mod Elements
-- count and sum
pub mod Sums
-- count is sum with weights of 1
pub mod CountLaws
-- max and min
pub mod Extremes
-- when an aggregate's relation holds, and what keeps it so
pub mod Local
-- what a hypothesis reads, and what keeps it true
pub mod Hypotheses
-- when a rule body is true or false
pub mod Bodies
-- the four kinds
pub mod KindLaws
-- steps (a) and (b)
pub mod Steps
-- step (c): the greatest unfounded set
pub mod Unfounded
-- a round is a step
pub mod Rounds
-- the model worked out is founded
pub mod Worked
-- absent refusals
pub mod Absent
-- what acceptance comes to
pub mod Sound
-- an accepted book is sound
pub mod Accepted
-- one model, never taken back
pub mod Unique
-- records and their bytes
pub mod Bytes
-- a longer book has the refusal of its start
pub mod Longer
-- books that differ in given bytes
pub mod Given
-- they are accepted alike
pub mod Gifts
-- what the outcome leaves in the room
pub mod Rooms
-- the three demands
pub mod Demands
-- the examples, computed
pub mod Examples
-- what is asked can be met
pub mod Premises
-- why an emptied set is no positive use
pub mod Emptying
