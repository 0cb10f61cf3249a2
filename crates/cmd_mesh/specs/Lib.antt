pub mod Calls
pub mod Sockets
pub mod Stations
pub mod Statuses
