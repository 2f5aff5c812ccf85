pub mod Root
pub mod Written
pub mod Smallest
pub mod Logged
