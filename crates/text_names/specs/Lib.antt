pub mod Hashes
pub mod Names
