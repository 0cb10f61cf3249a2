pub mod Roots
pub mod Keys
pub mod Sorting
pub mod Counting
