pub mod MemberNodes
pub mod Nodes
pub mod SameForms
pub mod SoundForms
pub mod SameMembers
pub mod TidiedSteps
pub mod Matching
mod Decided
pub mod SameSchemas
