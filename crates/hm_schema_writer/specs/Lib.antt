pub mod Writing
pub mod WrittenNodes
