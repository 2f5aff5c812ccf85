pub mod Means
pub mod Room
pub mod Records
pub mod RoundTrip
pub mod Examples
