pub mod Points
pub mod Knows
pub mod Hand
pub mod Ranges
pub mod Laws
