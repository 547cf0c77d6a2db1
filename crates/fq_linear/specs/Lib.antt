pub mod Table
pub mod steps
