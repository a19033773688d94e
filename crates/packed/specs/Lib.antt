pub mod Sums
pub mod Answer
