pub mod Touches
pub mod KindLaws
