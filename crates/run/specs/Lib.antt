pub mod Run
pub mod Legs
