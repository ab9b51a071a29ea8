pub mod LaidLemmas
pub mod NodeLemmas
