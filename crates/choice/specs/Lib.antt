pub mod Slots
pub mod Hands
pub mod Walk
pub mod Block
