pub mod Finish
pub mod Admitting
mod Ending
mod Forms
