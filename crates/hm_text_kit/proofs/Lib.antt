pub mod DateExits
pub mod FoldExits
pub mod FoldTexts
pub mod Stripped
pub mod Swaps
pub mod YesAndNo
