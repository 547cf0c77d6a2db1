pub mod Isomorphism
pub mod Isogeny
