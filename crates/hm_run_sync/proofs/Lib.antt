mod SixFiles
pub mod Opened
pub mod ArchiveDepths
pub mod Making
pub mod Once
pub mod Planned
