pub mod Depths
pub mod Taking
pub mod Lists
pub mod Tops
pub mod Listing
pub mod Adding
mod Runs
