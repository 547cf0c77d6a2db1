pub mod Greatest
pub mod Keeps
pub mod Refusals
pub mod Results
pub mod Works
pub mod steps
