pub mod MeaningLaws
pub mod FieldsLaws
pub mod GroupLaws
pub mod LineLaws
