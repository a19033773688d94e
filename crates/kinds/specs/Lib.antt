pub mod Fields
pub mod Ensures
