pub mod StandardRows
pub mod steps
