pub mod Expand
pub mod Places
pub mod Raised
pub mod Rows
pub mod Blocks
pub mod Leading
