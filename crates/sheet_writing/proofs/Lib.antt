-- Laws that the proofs of this crate and of the crates above cite.
pub mod QuestionLaws
pub mod WordLaws
pub mod BackLaws
pub mod WriteLaws
