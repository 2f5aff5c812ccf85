pub mod Order
pub mod Wkb
pub mod Examples
