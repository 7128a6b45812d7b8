pub mod Answers
pub mod Decimals
pub mod Names
pub mod Pieces
pub mod Registers
pub mod Rooms
pub mod Words
