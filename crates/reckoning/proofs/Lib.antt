pub mod Theorem
pub mod Bound
