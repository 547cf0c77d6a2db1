pub mod Reading
pub mod RowSteps
pub mod Settling
pub mod Pushed
pub mod Reduced
pub mod KernelRows
pub mod KernelBasis
pub mod Reduction
