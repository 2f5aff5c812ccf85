pub mod Spelling
pub mod SpellingLaws
pub mod Writing
pub mod Sized
pub mod Nested
pub mod Listed
