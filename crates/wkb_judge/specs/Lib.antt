pub mod Rows
pub mod Passing
pub mod Searched
pub mod Along
pub mod Steps
pub mod Inside
pub mod Rising
