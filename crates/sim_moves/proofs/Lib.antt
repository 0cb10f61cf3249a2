pub mod Numbers
pub mod Names
pub mod Parts
pub mod Bounds
