pub mod Decimals
pub mod DecimalLaws
pub mod BufferLaws
pub mod ReadBackLaws
