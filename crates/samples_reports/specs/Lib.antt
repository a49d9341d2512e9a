pub mod Smallest
pub mod Settled
pub mod Logarithms
