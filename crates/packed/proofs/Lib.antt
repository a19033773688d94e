pub mod ValueLaws
pub mod SumLaws
pub mod AnswerLaws
