mod Calm
mod Numbers
pub mod Once
