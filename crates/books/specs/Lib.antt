pub mod Tables
pub mod Sound
pub mod Check
pub mod Items
pub mod Plans
pub mod Meaning
pub mod Refusals
