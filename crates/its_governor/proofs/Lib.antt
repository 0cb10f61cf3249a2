pub mod Bounds
pub mod Buckets
pub mod SourceBounds
pub mod Deliveries
pub mod Forwarding
pub mod Pressure
pub mod Tallies
