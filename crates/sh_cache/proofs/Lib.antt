pub mod RowLemmas
pub mod FindLemmas
pub mod PlaceLemmas
pub mod SlotLemmas
pub mod ColumnLemmas
pub mod ActLemmas
pub mod StayLemmas
