pub mod Compared
pub mod ComparedLaws
