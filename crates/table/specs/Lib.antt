pub mod Tables
pub mod Stops
pub mod Turns
pub mod Checks
