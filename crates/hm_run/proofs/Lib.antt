mod Once
mod Written
pub mod Doing
mod Worked
mod Relied
mod Rereading
mod SixAgain
mod Replanning
mod StopStates
mod TwoRuns
