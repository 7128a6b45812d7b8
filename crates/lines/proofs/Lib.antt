pub mod Complete
pub mod Ends
pub mod Sound
pub mod Steps
pub mod Words
pub mod Names
pub mod Starts
