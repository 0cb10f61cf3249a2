pub mod Steps
pub mod Puts
pub mod Lengths
pub mod Cancels
pub mod Acts
pub mod Runs
pub mod ActLimits
pub mod Outcomes
pub mod Lawful
pub mod Passing
pub mod Contended
pub mod Unforwarded
pub mod FleetFrames
pub mod Fleets
pub mod FleetUnits
pub mod FleetMessages
pub mod FleetOnce
pub mod Holding
pub mod HoldingUnits
pub mod HoldingOnce
pub mod Sealing
pub mod SignedSteps
pub mod Signed
pub mod SignedOnce
pub mod SignedRunsOnce
pub mod SignedReleases
mod RowsOfForging
mod RowsOfHolding
