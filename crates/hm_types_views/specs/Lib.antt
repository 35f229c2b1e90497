pub mod Conditions
pub mod Overlays
pub mod Hiding
pub mod Lists
pub mod Merging
pub mod Values
