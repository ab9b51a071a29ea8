pub mod Args
pub mod Command
pub mod Holds
pub mod Narrow
pub mod Order
pub mod Uses
