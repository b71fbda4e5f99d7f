pub mod HeaderLaws
pub mod Ups
pub mod Columns
pub mod StoreLaws
pub mod ReadLaws
pub mod KeptLaws
pub mod Emptied
