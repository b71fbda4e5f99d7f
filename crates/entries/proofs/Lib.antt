pub mod Changing
pub mod Lows
pub mod Ordering
pub mod HopLaws
pub mod EntryLaws
pub mod WalkLaws
pub mod FindLaws
