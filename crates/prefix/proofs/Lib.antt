pub mod Booleans
pub mod Order
pub mod Common
pub mod Tests
pub mod Trimming
pub mod BitLaws
pub mod AddressLaws
mod Samples
pub mod Overlaps
