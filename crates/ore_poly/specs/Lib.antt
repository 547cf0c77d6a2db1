pub mod Terms
pub mod ProductLaws
pub mod steps
