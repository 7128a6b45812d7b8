pub mod Steps
pub mod OneWord
pub mod Refused
