pub mod Same
pub mod Forests
