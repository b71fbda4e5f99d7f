pub mod Guards
pub mod Leaving
pub mod Removing
pub mod Withdrawals
