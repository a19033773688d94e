pub mod WindowLaws
pub mod SpotLaws
pub mod SurveyLaws
pub mod EntranceLaws
pub mod OwnLaws
