pub mod Arms
pub mod Variants
pub mod Numberings
