pub mod Carrying
pub mod Certificates
pub mod News
pub mod Safe
pub mod Shown
pub mod Standing
pub mod Steps
