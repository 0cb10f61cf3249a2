pub mod Notes
pub mod Simulated
pub mod Records
pub mod Totals
pub mod Presences
pub mod Packets
