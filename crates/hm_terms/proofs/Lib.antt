pub mod Maps
pub mod OneShown
pub mod OnePut
pub mod Rows
pub mod Terms
mod Refused
mod Keeping
pub mod Laws
mod Examples
mod Cycles
mod Formed
