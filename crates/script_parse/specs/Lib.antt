pub mod Exact
pub mod Limits
pub mod Says
pub mod Scripts
pub mod Version
pub mod Within
pub mod steps
