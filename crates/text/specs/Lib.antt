pub mod Refused
pub mod Replaced
pub mod Layout
