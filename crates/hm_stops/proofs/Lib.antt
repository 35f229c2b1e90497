mod From
pub mod Again
pub mod Reasons
mod Examples
