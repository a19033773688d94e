pub mod Table
pub mod Places
pub mod PlaceSet
pub mod Idle
pub mod Asks
pub mod Asking
