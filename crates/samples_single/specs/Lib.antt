pub mod Starred
pub mod Floats
pub mod Halvings
pub mod Exponentials
pub mod Roots
pub mod Powers
pub mod Factors
pub mod Kroneckers
