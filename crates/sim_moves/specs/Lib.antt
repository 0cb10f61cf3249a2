pub mod Fields
pub mod Decimals
pub mod Columns
pub mod Rows
