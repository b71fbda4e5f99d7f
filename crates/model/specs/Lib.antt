pub mod Lists
pub mod Routes
pub mod Nodes
pub mod Model
pub mod Runs
pub mod Demands
