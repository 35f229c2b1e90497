pub mod Cards
pub mod Opening
pub mod Lent
