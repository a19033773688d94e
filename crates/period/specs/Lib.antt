pub mod Ensures
pub mod Positions
pub mod Marks
