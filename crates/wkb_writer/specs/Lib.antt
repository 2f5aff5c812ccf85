pub mod Answers
pub mod Does
