pub mod Alike
pub mod Words
pub mod Groups
