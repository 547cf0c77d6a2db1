pub mod Views
pub mod Stands
pub mod Bases
pub mod Sources
