pub mod Signs
pub mod Extends
pub mod Packed
