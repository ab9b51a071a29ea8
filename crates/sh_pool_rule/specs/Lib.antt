pub mod Views
pub mod Lives
pub mod Rights
pub mod Notes
pub mod Untold
pub mod Rule
