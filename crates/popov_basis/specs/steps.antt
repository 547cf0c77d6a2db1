-- What private functions do.
pub mod Leading
pub mod Division
