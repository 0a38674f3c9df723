pub mod ResultSizes
pub mod ResultLaws
pub mod OutcomeLaws
