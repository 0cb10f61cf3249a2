pub mod Inside
pub mod Faults
