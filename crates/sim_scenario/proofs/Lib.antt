pub mod Contending
pub mod Said
pub mod Timelines
