-- What the functions behind the public calls do, which only their own contracts cite.
pub mod Places
pub mod Algebra
pub mod LetterPowers
pub mod Kernel
pub mod Images
pub mod Norm
pub mod Bits
pub mod Tables
pub mod Codes
pub mod Logs
pub mod Kinds
pub mod Parts
pub mod Lanes
pub mod Shuffles
