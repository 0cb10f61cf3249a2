pub mod Items
pub mod Moves
pub mod Saying
pub mod Tables
pub mod Settings
