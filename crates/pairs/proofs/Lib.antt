pub mod Pairing
pub mod CheckLaws
