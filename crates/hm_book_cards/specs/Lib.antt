pub mod Cards
pub mod Books
