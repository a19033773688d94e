pub mod PartLaws
pub mod QuestionLaws
pub mod AskLaws
pub mod RedateLaws
pub mod VersionLaws
pub mod Promises
