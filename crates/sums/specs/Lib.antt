pub mod Sums
pub mod Reader
pub mod Code
