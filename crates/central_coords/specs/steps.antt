-- What private functions do.
pub mod Highest
