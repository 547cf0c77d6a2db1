pub mod Bounded
pub mod Full
pub mod steps
