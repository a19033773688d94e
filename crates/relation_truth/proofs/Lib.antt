pub mod ValueLaws
pub mod OrderLaws
pub mod SignLaws
pub mod EqualLaws
