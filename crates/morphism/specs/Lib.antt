pub mod Homomorphism
pub mod Arrow
