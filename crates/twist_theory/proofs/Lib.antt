pub mod Onto
pub mod Cancel
pub mod Points
pub mod FewRoots
