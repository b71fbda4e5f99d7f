pub mod Lengths
pub mod Answers
pub mod RoutesInside
pub mod Standings
