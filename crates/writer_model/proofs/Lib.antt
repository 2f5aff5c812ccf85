pub mod PartShown
pub mod EventStands
pub mod FinishStands
pub mod Rows
pub mod Tree
pub mod Feature
pub mod BenchCalls
pub mod Example
