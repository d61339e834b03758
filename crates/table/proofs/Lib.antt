pub mod Padded
pub mod Rows
