pub mod Clearing
pub mod Shifts
pub mod Tops
pub mod Uniqueness
