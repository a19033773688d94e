pub mod Told
pub mod Expected
pub mod Reading
pub mod Starts
pub mod Assignments
pub mod Names
