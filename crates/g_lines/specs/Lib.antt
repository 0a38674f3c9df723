pub mod Joined
pub mod JoinedLaws
pub mod TLine
pub mod TLineLaws
