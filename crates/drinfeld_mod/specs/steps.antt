pub mod FrobProduct
