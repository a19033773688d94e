pub mod MarkLaws
pub mod TableLaws
pub mod EntryLaws
pub mod LastLaws
pub mod WalkLaws
