pub mod Listed
pub mod Slots
