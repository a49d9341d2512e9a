-- Laws that the proofs of this crate cite.
pub mod NewtonLaws
pub mod LogarithmLaws
pub mod LogDerivativeLaws
