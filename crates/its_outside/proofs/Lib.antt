pub mod Spelled
pub mod Packets
pub mod Encodings
pub mod StandardFaults
pub mod Answering
pub mod Profile
