pub mod Held
pub mod Picks
