pub mod Setups
pub mod Writing
pub mod WrittenTables
pub mod WrittenCaches
pub mod CarriedPairs
pub mod AnswerWords
pub mod Outcomes
pub mod Runs
