pub mod Kept
pub mod Pairs
