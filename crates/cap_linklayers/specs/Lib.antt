pub mod LinkFormats
pub mod Cooked
pub mod Ethernet
pub mod Facts
pub mod Ieee80211
pub mod LinkLayers
pub mod Radiotap
pub mod AirTime
