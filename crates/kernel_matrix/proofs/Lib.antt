-- Laws that the proofs of the kernel cite.
pub mod BiasedProducts
pub mod MatrixRows
