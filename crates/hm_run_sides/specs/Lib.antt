pub mod Formats
pub mod Stops
pub mod Sides
pub mod SideReplicas
