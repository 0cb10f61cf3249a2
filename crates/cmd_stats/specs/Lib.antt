pub mod Readings
pub mod Units
pub mod Replies
pub mod Listening
pub mod OnAir
pub mod Replays
pub mod Comparing
