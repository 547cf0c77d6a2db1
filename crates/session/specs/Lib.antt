pub mod Kept
pub mod Of
pub mod Outcome
pub mod Refusals
pub mod Sound
pub mod State
pub mod Steps
