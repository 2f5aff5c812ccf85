pub mod Coords
pub mod Views
pub mod PairLaws
pub mod CoordLaws
