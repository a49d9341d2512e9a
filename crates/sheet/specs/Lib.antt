pub mod Lines
pub mod Kernels
