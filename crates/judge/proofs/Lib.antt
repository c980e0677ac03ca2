-- Laws of the judgement, in reading order. Assumes nothing.
-- ranges of elements
pub mod RangeLaws
-- what an element is and weighs
pub mod ElementLaws
-- the literal that a hypothesis is about
pub mod LiteralLaws
-- the truths of comparisons that were asked for
pub mod AskedLaws
-- count and sum
pub mod SumLaws
-- max and min
pub mod ExtremeLaws
-- comparisons
pub mod ComparisonLaws
-- rule bodies
pub mod BodyLaws
