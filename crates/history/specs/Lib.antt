pub mod Made
pub mod Due
