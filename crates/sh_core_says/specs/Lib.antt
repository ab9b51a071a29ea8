pub mod Quiescent
pub mod Books
pub mod Moments
pub mod Rest
