pub mod Rounding
pub mod RoundingLaws
pub mod Magnitude
pub mod FractionLaws
pub mod FiniteLaws
pub mod FormatLaws
pub mod Text
pub mod TextLaws
