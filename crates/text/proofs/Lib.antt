pub mod Facts
pub mod Pieces
