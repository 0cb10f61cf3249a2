pub mod Near
pub mod Digits
pub mod Bad
