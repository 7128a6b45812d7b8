pub mod World
pub mod Modes
pub mod Execute
pub mod Rules
pub mod Starts
