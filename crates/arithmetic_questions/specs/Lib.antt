pub mod Result
pub mod Questions
pub mod Answers
pub mod Reports
pub mod Outputs
pub mod Kernels
