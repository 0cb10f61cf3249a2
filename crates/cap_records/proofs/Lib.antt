pub mod Chosen
pub mod Faults
pub mod Placed
pub mod FoundRecords
pub mod Inner
pub mod Steps
pub mod OutsideFronts
pub mod AnyFrames
