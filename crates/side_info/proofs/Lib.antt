pub mod FlatLaws
pub mod CountLaws
pub mod HeaderLaws
pub mod ListLaws
pub mod AskedLaws
pub mod ShareLaws
pub mod ActiveLaws
