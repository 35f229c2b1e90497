pub mod Terms
pub mod Conditions
pub mod Children
pub mod Stages
pub mod Texts
pub mod Renaming
