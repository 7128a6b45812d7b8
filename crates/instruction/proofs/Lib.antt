pub mod Kindred
pub mod Wholes
