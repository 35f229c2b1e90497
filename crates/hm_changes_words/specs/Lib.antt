pub mod Parse
pub mod Asked
