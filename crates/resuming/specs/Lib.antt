pub mod Resuming
pub mod Contracts
pub mod Statements
