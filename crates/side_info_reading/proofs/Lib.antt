pub mod LaidLaws
pub mod TakenLaws
pub mod SlotLaws
pub mod PartLaws
pub mod BackLaws
pub mod ForthLaws
pub mod ReadLaws
pub mod PassLaws
