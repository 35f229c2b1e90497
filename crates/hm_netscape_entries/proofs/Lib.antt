pub mod Layouts
pub mod Left
pub mod Sound
mod Lines
pub mod Tidied
pub mod ReadAgain
pub mod Cut
pub mod Addresses
pub mod Nexts
mod Cases
