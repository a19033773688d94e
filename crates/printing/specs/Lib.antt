pub mod Ensures
pub mod Input
pub mod Output
