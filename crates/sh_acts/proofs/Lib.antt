pub mod Holds
pub mod Events
pub mod Own
pub mod StoreLemmas
pub mod EntryStores
pub mod Ends
pub mod Broken
