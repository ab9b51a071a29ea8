pub mod ImageLemmas
pub mod ReadLemmas
pub mod GiveLemmas
pub mod CachedLemmas
mod RowLemmas
mod PhaseLemmas
pub mod BeginLemmas
pub mod BackLemmas
pub mod WithinLemmas
pub mod InLineLemmas
pub mod Wanting
pub mod ShownLemmas
