pub mod AnsweredLaws
pub mod ReadyLaws
pub mod CallLaws
pub mod ReadLaws
pub mod Promises
pub mod OutcomeLaws
