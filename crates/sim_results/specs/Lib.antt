pub mod Audiences
pub mod FailedEvents
pub mod FullTables
pub mod Results
