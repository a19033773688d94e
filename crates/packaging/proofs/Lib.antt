pub mod SpotLaws
pub mod WalkLaws
pub mod SumLaws
pub mod AnswerLaws
pub mod CallLaws
pub mod AbsentLaws
pub mod Promises
