pub mod Aims
pub mod Leaves
pub mod Ways
pub mod Allowed
pub mod Deciding
