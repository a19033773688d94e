pub mod Window
pub mod Survey
pub mod Entrance
pub mod Own
