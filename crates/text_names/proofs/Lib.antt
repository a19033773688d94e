pub mod HashLaws
pub mod NamesLaws
pub mod EnterLaws
