pub mod Fresh
pub mod NodeChecks
pub mod RingChecks
pub mod EntryChecks
