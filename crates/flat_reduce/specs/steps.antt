-- What private functions do.
pub mod Turns
pub mod Settled
