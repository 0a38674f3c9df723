pub mod LineSums
