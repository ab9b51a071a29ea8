pub mod Tests
pub mod Options
pub mod Lists
pub mod Lookups
pub mod Pigeons
