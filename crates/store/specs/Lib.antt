pub mod Records
pub mod RecordLaws
pub mod Lone
pub mod Lists
