pub mod FirstRefusals
pub mod Updating
