pub mod Limbs
pub mod Plan
pub mod Sources
