pub mod MinPoly
pub mod steps
