pub mod Puts
pub mod Scenes
pub mod Spelled
pub mod Joins
pub mod EntryWords
