pub mod Sightings
