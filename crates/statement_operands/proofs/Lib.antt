pub mod Fitting
pub mod Given
pub mod ListCount
pub mod Lookup
pub mod Modules
pub mod SoundNames
pub mod Truths
