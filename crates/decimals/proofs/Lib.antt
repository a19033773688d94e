pub mod DigitLaws
pub mod ColumnLaws
