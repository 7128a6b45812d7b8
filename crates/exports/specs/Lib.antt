pub mod Triples
pub mod Coding
pub mod Limbs
pub mod Lists
