pub mod OtherCall
pub mod Going
pub mod Held
