pub mod ExactLaws
pub mod FactoredLaws
pub mod Steps
pub mod RoundedLaws
pub mod TotalLaws
