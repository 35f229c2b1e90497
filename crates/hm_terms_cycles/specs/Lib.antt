pub mod Calls
pub mod CallSets
pub mod Places
pub mod Callees
pub mod BadCycles
