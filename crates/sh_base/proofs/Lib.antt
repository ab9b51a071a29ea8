pub mod LayoutLemmas
pub mod PlacesLemmas
pub mod FaultLemmas
pub mod PlanLemmas
