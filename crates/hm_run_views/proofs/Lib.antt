mod Viewed
pub mod Once
