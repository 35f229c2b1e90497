pub mod WithoutBefore
pub mod Fits
