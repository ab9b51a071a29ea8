pub mod TreeState
pub mod Nodes
pub mod Ground
pub mod Change
pub mod Laws
