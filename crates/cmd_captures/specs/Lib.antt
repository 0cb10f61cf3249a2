pub mod Lines
pub mod Conversions
pub mod Faults
pub mod Fields
