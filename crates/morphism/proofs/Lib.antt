pub mod Decided
pub mod Homomorphisms
pub mod Isomorphic
