pub mod Draws
pub mod Range
pub mod Timetable
pub mod Heard
pub mod Carried
