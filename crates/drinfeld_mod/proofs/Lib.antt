pub mod Modules
pub mod Orbits
pub mod Periods
pub mod Actions
pub mod Heights
pub mod Lowest
pub mod Norms
