pub mod Lists
pub mod Nodes
pub mod Tree
pub mod Adding
