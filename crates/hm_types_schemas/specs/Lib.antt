pub mod Ends
pub mod Marks
pub mod Visiting
pub mod Writing
pub mod Rising
