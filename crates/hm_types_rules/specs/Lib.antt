pub mod Typing
pub mod Sources
pub mod Faults
pub mod Texts
pub mod TextNames
pub mod Programs
pub mod Numbering
