pub mod Values
pub mod UnitPtrs
pub mod Opens
pub mod Restarts
pub mod Lookups
pub mod Messages
pub mod Sealed
pub mod Lives
