pub mod Again
pub mod Walk
pub mod Tests
