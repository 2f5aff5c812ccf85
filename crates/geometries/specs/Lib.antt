pub mod Geometry
pub mod Coordinate
pub mod Events
pub mod Told
pub mod Examples
