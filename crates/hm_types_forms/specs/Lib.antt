pub mod Forms
pub mod Members
pub mod SameForms
pub mod Sound
