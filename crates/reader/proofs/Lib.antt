pub mod RoleLaws
pub mod Lone
