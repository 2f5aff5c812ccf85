pub mod Output
pub mod Put
pub mod PutEvent
pub mod PutLeft
