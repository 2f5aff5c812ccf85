pub mod Saying
pub mod Log
pub mod LogLaws
pub mod Values
pub mod Says
pub mod SaysLaws
pub mod Pairs
