pub mod Numbers
pub mod Accesses
