pub mod Slots
pub mod Sound
pub mod Changes
pub mod Results
pub mod Checks
