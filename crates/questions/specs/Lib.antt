pub mod Loose
