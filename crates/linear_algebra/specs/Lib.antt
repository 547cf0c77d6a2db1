pub mod Combines
pub mod Linear
pub mod steps
