pub mod CompleteStop
pub mod Completeness
pub mod FaultLine
pub mod Memory
pub mod Once
pub mod Ran
