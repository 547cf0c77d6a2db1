pub mod Pairs
pub mod Constants
pub mod UnitPowers
pub mod MakeBase
pub mod MakeTop
pub mod steps
