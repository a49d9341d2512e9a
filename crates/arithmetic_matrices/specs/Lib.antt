pub mod Matrix
pub mod Product
pub mod Norm
pub mod Workspace
pub mod Finite
pub mod Kernels
