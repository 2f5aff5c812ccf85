pub mod Column
pub mod ColumnLaws
pub mod Value
pub mod ValueLaws
pub mod Refused
