pub mod Calls
pub mod Digits
pub mod RoundTrip
