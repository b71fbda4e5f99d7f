pub mod Layout
pub mod Stores
pub mod Headers
