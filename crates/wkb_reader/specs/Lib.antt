pub mod Reading
pub mod Fields
pub mod Onward
pub mod Parts
pub mod GroupLaws
pub mod HeadLaws
pub mod KindLaws
pub mod WholeLaws
