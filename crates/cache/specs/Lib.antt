pub mod Calls
pub mod Checks
