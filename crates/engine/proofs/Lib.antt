-- Laws of this crate, in reading order.
-- what a level without predicates comes to, and loops over the atoms
pub mod LevelLaws
-- rounds come to rest
pub mod RestLaws
-- levels and the model
pub mod SolveLaws
-- the room
pub mod WriteLaws
-- the answers of a book
pub mod AnswerLaws
