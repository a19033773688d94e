pub mod DigitLaws
pub mod LineLaws
pub mod InputLaws
pub mod OutputLaws
pub mod Promises
