-- What private functions do.
pub mod System
pub mod Reading
pub mod Shifts
