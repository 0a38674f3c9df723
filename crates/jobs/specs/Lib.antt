pub mod Jobs
pub mod JobLaws
