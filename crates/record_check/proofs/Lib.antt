pub mod SlotLaws
pub mod TurnLaws
pub mod PromiseLaws
pub mod PassLaws
pub mod NumberLaws
