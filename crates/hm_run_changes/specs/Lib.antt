pub mod Changing
pub mod Endings
