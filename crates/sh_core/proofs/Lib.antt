pub mod Logs
pub mod Causes
pub mod Others
pub mod Moves
pub mod Frame
pub mod Lists
