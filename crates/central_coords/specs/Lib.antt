pub mod Coordinates
pub mod Central
pub mod steps
