pub mod Programs
pub mod Promise
pub mod Code
