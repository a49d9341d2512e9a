pub mod Limits
pub mod Bytes
pub mod Parse
pub mod Text
pub mod Kernels
