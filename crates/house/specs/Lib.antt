pub mod Patterns
pub mod House
pub mod Meaning
pub mod Sheets
