pub mod Walks
pub mod WalkLaws
pub mod Lone
