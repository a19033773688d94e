pub mod Written
pub mod Granting
