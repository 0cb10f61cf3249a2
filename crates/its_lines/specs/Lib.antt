pub mod Lines
pub mod Words
pub mod Requests
pub mod Knowing
pub mod Serving
pub mod Asked
pub mod Within
