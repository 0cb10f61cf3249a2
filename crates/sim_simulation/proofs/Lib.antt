mod Told
pub mod Counts
pub mod Starts
pub mod Summaries
pub mod Tallies
