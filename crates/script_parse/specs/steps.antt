-- What the functions behind the reader of scripts keep, which only their own contracts cite.
pub mod Fit
pub mod Scan
