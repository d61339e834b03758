pub mod Sums
pub mod Gives
pub mod Runs
pub mod Meets
pub mod Brings
pub mod Plans
