pub mod StatusRead
pub mod StatusLaws
