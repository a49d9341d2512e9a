-- Laws that the proofs of this crate cite.
pub mod WholeLaws
pub mod PowerLaws
