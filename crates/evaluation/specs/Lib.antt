pub mod FoundSmall
