pub mod Matches
pub mod Looks
pub mod Standings
