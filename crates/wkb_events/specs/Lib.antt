pub mod Course
pub mod Told
pub mod Walk
