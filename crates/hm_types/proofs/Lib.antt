mod ProgramFaults
mod DeclaringSteps
mod SourceTrees
mod FitsOver
mod CheckSteps
mod Beginning
pub mod Exactly
pub mod Once
