pub mod SoundViews
pub mod TreeForms
pub mod ListForms
pub mod SoundGoes
pub mod Determined
pub mod Once
pub mod NumberedOnce
mod Distinct
mod NumberedNodes
pub mod SoundVisits
pub mod NumberedMembers
mod TwoFaults
mod Sources
mod OneFault
mod OneAmong
pub mod NeverBoth
mod Examples
