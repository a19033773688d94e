pub mod ValueLaws
pub mod PutLaws
