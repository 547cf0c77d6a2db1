mod Leads
mod Clearing
mod SameModule
mod StandardBasis
mod Dividing
mod RelationBasis
mod Members
mod RowBases
mod SettledRows
pub mod Exists
