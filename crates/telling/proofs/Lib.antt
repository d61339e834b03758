pub mod Rows
pub mod Behind
