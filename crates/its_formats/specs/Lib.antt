pub mod Bytes
pub mod Format
pub mod Spells
pub mod FirstFault
