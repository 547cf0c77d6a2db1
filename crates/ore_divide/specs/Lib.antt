pub mod Division
pub mod Divisor
pub mod Multiple
pub mod steps
