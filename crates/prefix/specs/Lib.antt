pub mod Bits
pub mod Prefix
pub mod Addresses
