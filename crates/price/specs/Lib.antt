pub mod Call
pub mod Answered
pub mod Read
