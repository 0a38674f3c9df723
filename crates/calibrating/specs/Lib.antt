pub mod CalibrateLaws
