pub mod Complete
pub mod Run
pub mod Runs
pub mod StatusTexts
pub mod steps
