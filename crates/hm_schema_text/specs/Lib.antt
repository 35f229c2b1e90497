pub mod Head
pub mod BadLines
pub mod SchemaFiles
pub mod Writing
