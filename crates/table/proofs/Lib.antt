pub mod Fresh
pub mod Reading
pub mod Turning
pub mod Judging
pub mod Checking
