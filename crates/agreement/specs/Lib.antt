pub mod Reading
pub mod Keeping
pub mod Contracts
pub mod Fuel
pub mod ByHand
pub mod Statements
pub mod Missing
