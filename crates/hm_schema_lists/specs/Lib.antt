pub mod Plain
pub mod ListNodes
pub mod Values
