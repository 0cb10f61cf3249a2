pub mod Lines
pub mod FourStations
