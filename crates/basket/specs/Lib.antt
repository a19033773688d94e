pub mod Basket
pub mod Held
pub mod Located
pub mod Read
