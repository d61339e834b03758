pub mod Questions
pub mod Facts
pub mod Rows
pub mod Decides
pub mod Made
pub mod Pairs
