-- What an elimination does, which only the contracts of private functions cite.
pub mod Slots
