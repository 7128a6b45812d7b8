pub mod Kinds
pub mod Operands
