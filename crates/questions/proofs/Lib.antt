pub mod Facts
mod Within
mod Copied
mod Compared
