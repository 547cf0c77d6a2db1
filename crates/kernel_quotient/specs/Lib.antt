pub mod Quotient
