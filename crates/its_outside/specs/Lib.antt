pub mod Kinds
pub mod Encoding
pub mod Layout
pub mod StandardFault
pub mod Outside
