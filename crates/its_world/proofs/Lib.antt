pub mod Walks
pub mod Worlds
pub mod Logs
pub mod Giving
pub mod Apart
pub mod Late
mod Done
