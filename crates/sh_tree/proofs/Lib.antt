pub mod ListLemmas
pub mod ChainLemmas
pub mod WalkLemmas
pub mod CountLemmas
pub mod HoldLemmas
