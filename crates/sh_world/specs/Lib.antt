pub mod States
pub mod Columns
pub mod Turning
pub mod Lines
pub mod Running
pub mod Seats
pub mod Laws
