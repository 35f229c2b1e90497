pub mod Digits
pub mod OneMore
