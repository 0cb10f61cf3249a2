pub mod Traffics
pub mod Waiting
pub mod Counted
pub mod Line
pub mod Waits
pub mod Keeps
pub mod Reach
pub mod PlaceIndexes
