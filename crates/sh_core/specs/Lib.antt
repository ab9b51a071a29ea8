pub mod Actors
pub mod Fits
pub mod Causes
pub mod Keeps
pub mod Core
pub mod Opening
pub mod Listed
