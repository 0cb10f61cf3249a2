pub mod Header
pub mod PortSets
