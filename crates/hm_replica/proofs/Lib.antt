mod Closing
pub mod Laws
