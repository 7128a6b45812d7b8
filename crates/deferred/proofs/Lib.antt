pub mod Waiting
pub mod Forms
pub mod Seeing
pub mod Staying
