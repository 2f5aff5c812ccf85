pub mod Geometry
pub mod Within
pub mod Fits
pub mod Levels
pub mod Any
