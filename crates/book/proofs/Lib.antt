pub mod BookLaws
pub mod WalkLaws
