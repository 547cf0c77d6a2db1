pub mod Statements
pub mod Verbs
