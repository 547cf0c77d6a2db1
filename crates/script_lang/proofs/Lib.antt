pub mod Equal
pub mod Fronts
pub mod Lexing
pub mod OneReading
pub mod Operands
pub mod Reading
pub mod Splitting
