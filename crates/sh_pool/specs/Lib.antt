pub mod Handed
pub mod Fitting
pub mod Passes
pub mod Turns
pub mod Pools
pub mod Calls
pub mod Cards
pub mod Gathering
