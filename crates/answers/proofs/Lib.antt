pub mod Booleans
pub mod Storing
pub mod DecimalLaws
pub mod WritingLaws
pub mod Samples
