pub mod Events
pub mod Plain
pub mod Run
