pub mod Members
pub mod Sound
mod Strings
mod Tokens
mod Texts
pub mod Read
pub mod Written
