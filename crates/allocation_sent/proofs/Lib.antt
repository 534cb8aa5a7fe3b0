pub mod AskedLaws
pub mod ChargeLaws
pub mod SentLaws
