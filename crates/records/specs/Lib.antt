pub mod Asks
pub mod Kinds
pub mod Tests
pub mod Ensures
