pub mod Passes
pub mod Print
