mod ColumnLemmas
mod FillLemmas
pub mod InnerLemmas
mod PairLemmas
pub mod EntriesLemmas
pub mod LeafLemmas
pub mod ReadLemmas
mod EmptyLemmas
pub mod WriteLemmas
pub mod UntornLemmas
mod NodeLemmas
pub mod LaidLemmas
