pub mod Poly
pub mod Division
pub mod Monic
pub mod Laws
