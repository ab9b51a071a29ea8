pub mod KeyLemmas
pub mod PointLemmas
pub mod Knowing
pub mod Known
pub mod Fed
pub mod HandLemmas
pub mod RowLemmas
pub mod Gathering
