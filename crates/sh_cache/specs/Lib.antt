pub mod Cached
pub mod Columns
pub mod Acts
