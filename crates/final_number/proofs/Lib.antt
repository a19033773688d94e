pub mod NumberLaws
pub mod CallLaws
pub mod AnswerLaws
pub mod LengthLaws
pub mod Promises
