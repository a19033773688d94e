pub mod Line
pub mod Size
pub mod Named
