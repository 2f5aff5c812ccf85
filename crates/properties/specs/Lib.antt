pub mod ReadBack
pub mod Readings
pub mod Places
pub mod RoundTrip
pub mod Examples
