pub mod ListingLaws
pub mod ByteLaws
pub mod CallLaws
pub mod RecordLaws
pub mod ReadLaws
pub mod Promises
