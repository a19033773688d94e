pub mod GivenLaws
pub mod PartLaws
pub mod QuoteLaws
pub mod FieldLaws
pub mod EndLaws
pub mod LineLaws
pub mod ContentLaws
pub mod SameLaws
