pub mod AskedLaws
pub mod AnswerLaws
pub mod LineLaws
pub mod LocatedLaws
pub mod CallLaws
pub mod ReadLaws
pub mod Promises
