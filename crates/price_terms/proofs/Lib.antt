pub mod PartLaws
pub mod TermLaws
