pub mod Grammar
pub mod Reader
pub mod Faults
pub mod Truth
pub mod Parts
pub mod Derived
pub mod Calls
