pub mod DeclaredNodes
pub mod Checks
