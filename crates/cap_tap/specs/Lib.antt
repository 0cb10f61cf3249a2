pub mod Lost
pub mod Sizes
