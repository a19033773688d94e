pub mod PropertyLaws
pub mod ReadLaws
