pub mod Spans
pub mod Classes
pub mod Steps
pub mod Searches
pub mod Noting
pub mod Rooms
pub mod Tables
