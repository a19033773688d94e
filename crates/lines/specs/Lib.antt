pub mod Views
pub mod Ensures
pub mod Verdict
