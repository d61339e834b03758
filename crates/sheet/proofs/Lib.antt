pub mod Items
pub mod Codes
pub mod Opened
pub mod Texts
pub mod Corrected
