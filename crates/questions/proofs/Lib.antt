pub mod EndLaws
pub mod ReadLaws
pub mod NameLaws
