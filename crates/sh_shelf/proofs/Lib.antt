pub mod RowLemmas
pub mod Fronts
pub mod Adding
pub mod RuleLemmas
pub mod KeeperLemmas
