pub mod Complete
pub mod Sound
pub mod Differences
pub mod Decimals
pub mod Terms
