pub mod Image
pub mod Calls
pub mod Pages
pub mod Tests
pub mod Statements
