-- Laws that the proofs of this crate cite.
pub mod KroneckerQuestions
pub mod KroneckerLaws
