pub mod EntryLaws
pub mod LookLaws
pub mod StandLaws
pub mod TextLaws
pub mod Promises
