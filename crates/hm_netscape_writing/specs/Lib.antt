pub mod Added
pub mod Outermost
