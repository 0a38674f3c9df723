pub mod Saved
pub mod BlockCallLaws
