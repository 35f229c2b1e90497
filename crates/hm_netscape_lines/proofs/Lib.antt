pub mod Joined
mod Trimmed
