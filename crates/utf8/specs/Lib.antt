pub mod Utf8
pub mod Laws
pub mod Meaning
pub mod Examples
