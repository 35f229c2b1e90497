pub mod Contents
pub mod Risen
mod Compared
mod Places
mod InMemory
