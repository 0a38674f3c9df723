pub mod LentReports
