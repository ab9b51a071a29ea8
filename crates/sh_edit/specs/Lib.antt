pub mod Held
pub mod Placing
pub mod Rewriting
pub mod Splitting
pub mod Pairing
pub mod Ranging
