pub mod Continued
pub mod Resumed
pub mod Calls
