pub mod CookedHeaders
pub mod DataHeaders
pub mod RadiotapHeaders
