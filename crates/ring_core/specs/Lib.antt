pub mod Ring
pub mod Field
pub mod Coeffs
pub mod Powers
pub mod Twisted
pub mod Monomial
pub mod Degrees
pub mod Written
