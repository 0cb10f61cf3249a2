pub mod Walks
pub mod Spells
pub mod Numbers
pub mod Found
pub mod FirstFaults
