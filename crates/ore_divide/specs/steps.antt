-- What the functions behind the public calls do, which only their own contracts cite.
pub mod Reduced
pub mod Links
pub mod Sides
