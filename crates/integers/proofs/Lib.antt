pub mod Signed
pub mod FloorLaws
pub mod Multiples
