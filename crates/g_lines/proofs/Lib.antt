pub mod GLines
