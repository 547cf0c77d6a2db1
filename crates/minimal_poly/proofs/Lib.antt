pub mod Coordinates
pub mod MinPoly
