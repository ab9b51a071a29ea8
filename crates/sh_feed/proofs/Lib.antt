pub mod Lists
pub mod Steps
pub mod Tokens
pub mod Plain
pub mod Owners
