pub mod Motive
pub mod OverT
pub mod steps
