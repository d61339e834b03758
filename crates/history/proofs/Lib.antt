pub mod Growing
pub mod Makes
pub mod Going
