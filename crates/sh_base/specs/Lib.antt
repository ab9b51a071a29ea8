pub mod Setting
pub mod Parts
pub mod Layout
pub mod Places
pub mod Faults
pub mod Plans
pub mod Values
pub mod Memory
