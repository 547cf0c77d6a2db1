pub mod PowerRows
