pub mod Rows
pub mod Numbers
pub mod Stored
pub mod Tests
pub mod Contents
pub mod Round
pub mod Shape
