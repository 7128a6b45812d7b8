pub mod Bytes
pub mod Memory
