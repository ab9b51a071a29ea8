pub mod Entries
pub mod Leaf
pub mod Inner
pub mod Columns
pub mod PairColumns
pub mod Seen
pub mod Node
pub mod Laid
