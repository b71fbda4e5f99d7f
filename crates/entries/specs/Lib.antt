pub mod Caches
pub mod Changed
pub mod Walks
