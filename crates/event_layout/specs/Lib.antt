pub mod Head
pub mod Event
pub mod EventLaws
pub mod Value
