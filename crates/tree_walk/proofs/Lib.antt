pub mod Again
pub mod Remembers
pub mod Visits
pub mod Alike
pub mod Marks
pub mod Looks
