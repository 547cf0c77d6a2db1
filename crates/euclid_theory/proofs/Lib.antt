pub mod Sizes
pub mod Chains
pub mod Divisors
pub mod LeftDivision
pub mod Lengths
pub mod OreSizes
