pub mod Coding
pub mod Keeping
pub mod Spelling
pub mod Plainness
