pub mod ListBases
pub mod Values
pub mod Relations
pub mod PowerRows
pub mod Scaled
pub mod Products
pub mod Exists
pub mod FrobeniusTimes
