pub mod Geometry
pub mod GeometryLaws
pub mod Lone
