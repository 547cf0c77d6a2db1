-- What the functions behind the public calls do, which only their own contracts cite.
pub mod Places
pub mod Elimination
pub mod Extents
