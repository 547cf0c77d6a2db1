pub mod BitField
