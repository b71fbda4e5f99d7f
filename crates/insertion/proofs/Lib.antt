pub mod HangLaws
pub mod InsertLaws
