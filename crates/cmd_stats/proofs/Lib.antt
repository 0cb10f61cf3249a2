pub mod Readings
pub mod Opened
pub mod Records
pub mod Verified
pub mod Replies
pub mod Moves
pub mod Begun
