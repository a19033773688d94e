pub mod DigitLaws
pub mod AmountLaws
pub mod LetterLaws
pub mod MeaningLaws
