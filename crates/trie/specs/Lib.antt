pub mod Trie
pub mod Walk
pub mod Updates
pub mod Routes
pub mod Check
