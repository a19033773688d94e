pub mod HeldLaws
pub mod WithinLaws
pub mod PickLaws
