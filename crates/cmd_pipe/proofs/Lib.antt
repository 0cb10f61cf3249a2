pub mod InputLines
pub mod Served
