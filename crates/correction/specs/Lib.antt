pub mod Boundaries
pub mod Walks
pub mod Lookbacks
pub mod Plans
pub mod Promise
