mod Places
mod Shapes
mod Left
mod Owed
mod Closed
mod Steps
mod Formed
mod Assembled
pub mod Twins
mod RisingShapes
