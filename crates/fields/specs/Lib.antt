pub mod Given
pub mod Field
pub mod Content
