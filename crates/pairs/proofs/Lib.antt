pub mod RuleLaws
pub mod FrontLaws
pub mod Passing
