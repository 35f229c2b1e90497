mod Fronts
mod LineKinds
mod Places
mod Runs
mod Moves
mod Rests
mod Soundness
mod Completeness
mod Closings
mod Stopped
mod EventLines
mod LineTexts
mod LentRuns
mod OwnAgain
mod Renewals
pub mod Laws
