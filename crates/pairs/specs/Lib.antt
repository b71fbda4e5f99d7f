pub mod Pairs
pub mod States
