pub mod Intake
pub mod Lists
pub mod Port
