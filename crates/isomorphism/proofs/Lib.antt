pub mod Constants
pub mod Isogenies
