pub mod Promises
pub mod Lookups
