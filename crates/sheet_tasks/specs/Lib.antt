pub mod Tasks
pub mod Functions
pub mod Kernels
