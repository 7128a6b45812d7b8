pub mod Held
pub mod Registers
pub mod Formed
