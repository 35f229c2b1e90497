pub mod Stored
pub mod Calm
pub mod Generating
