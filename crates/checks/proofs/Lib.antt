-- Laws of this crate, in reading order.
-- chains of refusals
pub mod ChainLaws
-- searches for the lowest record at fault
pub mod LowestLaws
-- checks 1 to 3
pub mod FrameLaws
-- what a check that passed gives
pub mod CheckLaws
-- checks 4 and 5
pub mod BodyLaws
-- check 6: what was compared, and the search
pub mod SeenLaws
pub mod PairLaws
-- check 7
pub mod GivenLaws
-- check 8
pub mod MixtureLaws
-- checks 9 to 11: how high uses reach, and the highest of a comparison
pub mod ReachLaws
-- one hypothesis; one rule, and all of them
pub mod HypothesisLaws
pub mod RuleLaws
-- a limit on the reach is what document 01 says
pub mod LimitLaws
