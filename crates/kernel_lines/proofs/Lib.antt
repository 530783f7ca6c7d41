-- Laws that the proofs of the kernels cite.
pub mod ExtendedRows
pub mod ConvolvedLines
pub mod Divisors
