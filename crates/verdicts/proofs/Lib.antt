pub mod Linking
pub mod Kept
pub mod After
pub mod Verdicts
pub mod Standing
pub mod Stopping
