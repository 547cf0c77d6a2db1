pub mod Caps
pub mod Lines
pub mod OneScript
pub mod Places
pub mod Scan
pub mod Shapes
pub mod VersionFit
pub mod Within
