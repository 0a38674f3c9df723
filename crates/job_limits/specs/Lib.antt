pub mod JobRules
pub mod JobRuleLaws
