pub mod Module
pub mod Make
pub mod Image
pub mod Height
pub mod Invariant
pub mod steps
