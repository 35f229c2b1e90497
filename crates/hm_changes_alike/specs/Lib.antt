pub mod Alikes
pub mod Staying
pub mod Parents
pub mod Shown
pub mod Below
