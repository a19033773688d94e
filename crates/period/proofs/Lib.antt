pub mod PeriodLaws
pub mod PositionLaws
pub mod MarkLaws
