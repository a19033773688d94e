pub mod UnusedLaws
pub mod OutcomeLaws
pub mod FitLaws
