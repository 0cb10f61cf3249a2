pub mod Taken
pub mod Evaluated
