pub mod Numbers
pub mod Spots
pub mod Scanned
pub mod Answer
