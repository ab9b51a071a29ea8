pub mod Shelf
pub mod Book
pub mod Racked
pub mod Held
