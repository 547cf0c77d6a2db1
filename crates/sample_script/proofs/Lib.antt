pub mod Element
pub mod Limits
pub mod Lines
pub mod Powers
pub mod Short
pub mod Statements
pub mod Tokens
pub mod Twelve
