pub mod Unfolding
pub mod Folding
pub mod Values
pub mod Content
pub mod Shown
