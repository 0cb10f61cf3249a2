pub mod FileNames
pub mod FrameFiles
pub mod NamedFiles
pub mod Statuses
