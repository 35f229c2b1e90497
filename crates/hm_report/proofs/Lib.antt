pub mod Explained
pub mod Once
mod Sets
pub mod FirstNews
pub mod Existence
