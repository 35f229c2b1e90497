pub mod Bounded
pub mod Renaming
pub mod Falling
