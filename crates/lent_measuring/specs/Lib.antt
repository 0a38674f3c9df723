pub mod LentMeasured
