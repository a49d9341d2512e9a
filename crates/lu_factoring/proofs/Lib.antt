-- Laws that the proofs of this crate and of the crates above cite.
pub mod LuLaws
pub mod LuLoop
pub mod PivotLaws
pub mod SolveLaws
pub mod SystemLaws
pub mod RowLaws
pub mod DivisionLaws
pub mod Tolerance
pub mod Factors
pub mod Solution
