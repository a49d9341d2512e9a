-- Laws that the proofs of this crate and of the crates above cite.
pub mod WroteLaws
pub mod TextLaws
pub mod BytesLaws
pub mod ParseLaws
pub mod LineLaws
