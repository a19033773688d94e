pub mod NameLaws
pub mod HeldLaws
pub mod ListLaws
pub mod PositionLaws
pub mod SlotLaws
