pub mod Acts
pub mod Stores
pub mod Counters
pub mod Laid
pub mod Images
pub mod Laws
