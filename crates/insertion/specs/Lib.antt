pub mod Hangs
