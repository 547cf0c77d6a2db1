-- What the functions behind the work of the statements keep, which only their own contracts cite.
pub mod Full
