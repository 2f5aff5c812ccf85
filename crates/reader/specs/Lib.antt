pub mod Reading
pub mod Roles
pub mod Examples
