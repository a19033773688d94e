pub mod Spots
pub mod Sums
