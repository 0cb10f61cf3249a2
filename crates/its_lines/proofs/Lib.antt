pub mod Made
pub mod Neighbours
pub mod Read
pub mod Own
pub mod Secured
pub mod Media
