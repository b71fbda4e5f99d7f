pub mod SizeLaws
pub mod SetUpLaws
pub mod PartLaws
