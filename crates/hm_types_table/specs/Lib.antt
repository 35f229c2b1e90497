pub mod Tables
pub mod Classes
pub mod Shapes
pub mod Members
