pub mod Asked
pub mod Sheets
pub mod Told
pub mod Plain
