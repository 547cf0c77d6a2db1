-- What proofs and private functions speak of: storages and linear maps of residues.
pub mod Stored
