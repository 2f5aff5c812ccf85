pub mod SetType
pub mod Ask
