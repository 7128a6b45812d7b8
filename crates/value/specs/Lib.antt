pub mod Forty
pub mod Product
pub mod Division
