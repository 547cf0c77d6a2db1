pub mod HomRows
pub mod BoundedList
pub mod FullList
pub mod SystemRows
pub mod Shifts
