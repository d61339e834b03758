pub mod Starts
pub mod Pointing
pub mod Alike
pub mod Steps
pub mod Written
pub mod Whole
