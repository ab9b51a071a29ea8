pub mod Trees
pub mod Points
pub mod Books
pub mod Moments
pub mod AtRest
