pub mod Reads
pub mod Counted
pub mod Names
pub mod Ensures
pub mod Ends
pub mod Records
