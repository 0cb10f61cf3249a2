pub mod Neighbours
pub mod Walk
pub mod Steps
pub mod Decisions
