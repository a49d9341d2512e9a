-- Laws that the proofs of this crate cite.
pub mod BlockLaws
pub mod FrechetLaws
pub mod ConditionLaws
