pub mod PricedLaws
pub mod CallLaws
pub mod Promises
