-- Laws that the proofs of this crate and of the crates above cite.
pub mod QuestionLaws
pub mod AnswerLaws
pub mod ReportLaws
pub mod OutputLaws
pub mod BothLaws
pub mod ReplacedLaws
