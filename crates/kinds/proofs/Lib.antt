pub mod FieldLaws
pub mod KindLaws
pub mod PackagingLaws
pub mod RecordLaws
pub mod PartsLaws
